use Rattle.std.proofs.Common.{◌≡◌, ◌++◌, drop}
use Rattle.plan_world.specs.NinjaLog.{log_lines}
use Rattle.plan_world.proofs.ninja_log.lines_of.Given as goal

abbrev pub invariant-loop-number : goal.invariant-loop-number
invariant-loop-number l = l.lines.items ++ log_lines l.before l.after (drop l.number l.outputs) ≡ log_lines l.before l.after l.outputs
