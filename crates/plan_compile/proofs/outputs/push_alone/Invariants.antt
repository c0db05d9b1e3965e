use Rattle.std.proofs.Common.{◌≡◌, ◌++◌, drop}
use Rattle.plan_compile.specs.Emit.{alone_code}
use Rattle.plan_compile.proofs.outputs.push_alone.Given as goal

abbrev pub invariant-loop-output : goal.invariant-loop-output
invariant-loop-output l = l.code ++ alone_code (drop l.output-index l.outputs) ≡ l.fn.code ++ alone_code l.outputs
