use Rattle.std.proofs.Common.{◌≡◌, ◌++◌, drop}
use Rattle.plan_compile.specs.Emit.{restat_code}
use Rattle.plan_compile.proofs.outputs.push_restat.Given as goal

abbrev pub invariant-loop-output : goal.invariant-loop-output
invariant-loop-output l = l.code ++ restat_code (drop l.output-index l.outputs) ≡ l.fn.code ++ restat_code l.outputs
