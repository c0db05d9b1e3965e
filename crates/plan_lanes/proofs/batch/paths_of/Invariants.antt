use Rattle.std.proofs.Common.{◌≡◌, take}
use Rattle.plan_lanes.proofs.batch.paths_of.Given as goal

abbrev pub invariant-loop-i : goal.invariant-loop-i
invariant-loop-i l = l.rows ≡ take l.i l.outputs
