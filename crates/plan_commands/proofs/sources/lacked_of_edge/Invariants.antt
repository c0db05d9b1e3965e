use Rattle.plan_commands.proofs.SourcesLemmas.{HasBelow}
use Rattle.plan_commands.proofs.sources.lacked_of_edge.Given as goal

abbrev pub invariant-loop-place : goal.invariant-loop-place
invariant-loop-place g l = HasBelow g.W.World.allows l.image l.edge l.place
