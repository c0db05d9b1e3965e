use Rattle.plan_commands.specs.Recorded.{AreRecorded}
use Rattle.plan_commands.proofs.recorded.without_cycles.Given as goal

abbrev pub invariant-loop : goal.invariant-loop
invariant-loop g l = AreRecorded g.W.World.allows l.manifest l.left.items
