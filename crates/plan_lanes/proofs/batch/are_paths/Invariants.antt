use Rattle.plan_lanes.specs.Alike.{AreAlike}
use Rattle.plan_lanes.proofs.batch.are_paths.Given as goal

abbrev pub invariant-loop-i : goal.invariant-loop-i
invariant-loop-i l = AreAlike l.i l.one l.other
