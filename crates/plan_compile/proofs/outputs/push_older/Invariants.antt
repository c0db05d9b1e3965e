use Rattle.std.proofs.Common.{◌≡◌, ◌++◌, drop}
use Rattle.plan_compile.specs.Emit.{older_code}
use Rattle.plan_compile.proofs.outputs.push_older.Given as goal

abbrev pub invariant-loop-output : goal.invariant-loop-output
invariant-loop-output l = l.code ++ older_code (drop l.output-index l.outputs) ≡ l.fn.code ++ older_code l.outputs
