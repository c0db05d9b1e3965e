use Rattle.std.proofs.Common.{◌≤◌}
use Rattle.plan_commands.specs.Recorded.{AreRecalledBetween}
use Rattle.plan_commands.proofs.recorded.recalled_between.Given as goal

abbrev pub invariant-loop-number : goal.invariant-loop-number
invariant-loop-number g l = (l.from ≤ l.number) × AreRecalledBetween g.W.World.allows l.edges l.from l.number l.additions.items
