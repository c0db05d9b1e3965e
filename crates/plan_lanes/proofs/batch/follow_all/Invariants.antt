use Rattle.std.proofs.Common.{◌≤◌}
use Rattle.plan_lanes.proofs.batch.follow_all.Given as goal

abbrev pub invariant-loop-at : goal.invariant-loop-at
invariant-loop-at g l = l.kept ≤ l.at
