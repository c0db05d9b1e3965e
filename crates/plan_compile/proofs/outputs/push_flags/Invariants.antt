use Rattle.std.proofs.Common.{◌≡◌, ◌++◌, drop}
use Rattle.plan_compile.specs.Emit.{flag_code}
use Rattle.plan_compile.proofs.outputs.push_flags.Given as goal

abbrev pub invariant-loop-output : goal.invariant-loop-output
invariant-loop-output l = l.code ++ flag_code l.on (drop l.output-index l.outputs) ≡ l.fn.code ++ flag_code l.on l.outputs
