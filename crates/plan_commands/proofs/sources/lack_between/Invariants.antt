use Rattle.plan_commands.specs.NeededFiles.{HaveBetween}
use Rattle.plan_commands.proofs.sources.lack_between.Given as goal

abbrev pub invariant-loop-edge : goal.invariant-loop-edge
invariant-loop-edge g l = HaveBetween g.W.World.allows l.image l.wanted l.from l.edge
