use Rattle.std.proofs.Common.{◌≢◌, Some}
use Rattle.std.specs.Prelude.{slice_get}
use Rattle.plan_graph.specs.declared.walk.Mark.TheVariants.{New}
use Rattle.plan_graph.specs.Walking.{GoesOn, left}
use Rattle.plan_graph.proofs.walk.Walk.visit.Given as goal

abbrev pub invariant-loop-top : goal.invariant-loop-top
invariant-loop-top l = GoesOn l.fn.self l.self × (slice_get l.self.marks l.start ≢ Some New)

abbrev pub decreases-loop-top : goal.decreases-loop-top
decreases-loop-top l = left l.self.marks
