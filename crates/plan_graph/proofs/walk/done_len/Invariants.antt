use Rattle.std.proofs.Common.{◌≤◌, ◌-◌, length}
use Rattle.plan_graph.specs.Walking.{DoneTo}
use Rattle.plan_graph.proofs.walk.done_len.Given as goal

abbrev pub invariant-loop-len : goal.invariant-loop-len
invariant-loop-len l = (l.len ≤ length l.row) × DoneTo l.marks l.row l.len

abbrev pub decreases-loop-len : goal.decreases-loop-len
decreases-loop-len l = length l.row - l.len
