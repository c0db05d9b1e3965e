use Rattle.std.specs.Prelude.{All}
use Rattle.plan_commands.specs.Recorded.{IsWaitOf}
use Rattle.plan_commands.proofs.recorded.push_waits.Given as goal

abbrev pub invariant-loop-place : goal.invariant-loop-place
invariant-loop-place l = All (IsWaitOf l.graph l.additions) l.waits.items
