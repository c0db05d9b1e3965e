use Rattle.std.proofs.Common.{◌≡◌, ◌++◌, drop}
use Rattle.plan_compile.specs.Emit.{stat_code}
use Rattle.plan_compile.proofs.outputs.push_stats.Given as goal

abbrev pub invariant-loop-output : goal.invariant-loop-output
invariant-loop-output l = l.code ++ stat_code (drop l.output-index l.outputs) ≡ l.fn.code ++ stat_code l.outputs
