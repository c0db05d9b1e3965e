use Rattle.std.specs.Prelude.{All}
use Rattle.plan_commands.specs.Recorded.{IsWaitOf}
use Rattle.plan_commands.proofs.recorded.waits_of.Given as goal

abbrev pub invariant-loop-number : goal.invariant-loop-number
invariant-loop-number l = All (IsWaitOf l.graph l.additions) l.waits.items
