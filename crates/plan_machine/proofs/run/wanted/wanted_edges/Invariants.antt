use Rattle.plan_machine.specs.Walk.{Walks, left}
use Rattle.plan_machine.proofs.run.wanted.wanted_edges.Given as goal

abbrev pub invariant-loop-e : goal.invariant-loop-e
invariant-loop-e l = Walks l.parts l.targets l.walk

abbrev pub decreases-loop-e : goal.decreases-loop-e
decreases-loop-e l = left l.walk
