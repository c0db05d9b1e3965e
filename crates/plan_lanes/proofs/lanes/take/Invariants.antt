use Rattle.std.proofs.Common.{[]}
use Rattle.plan_lanes.specs.Batches.{Gathers}
use Rattle.plan_lanes.proofs.lanes.take.Given as goal

abbrev pub invariant-loop : goal.invariant-loop
invariant-loop g l = (goal.iterator-loop g).can_next l.iterator' × (goal.iterator-loop g).is_finite l.iterator' × Gathers l.fn.shared.run l.shared.run l.fn.batch l.batch []
