use Rattle.std.proofs.Common.{◌≡◌, ◌≢◌, ◌<◌, [], Some, ℕ}
use Rattle.std.specs.Prelude.{slice_get}
use Rattle.plan_graph.specs.declared.walk.Mark.TheVariants.{New}
use Rattle.plan_graph.proofs.walk.ranks.Given as goal

abbrev pub invariant-loop-edge : goal.invariant-loop-edge
invariant-loop-edge l = (l.walk.waits ≡ l.waits) × (l.walk.path ≡ []) × ((e : ℕ) → e < l.edge → slice_get l.walk.marks e ≢ Some New)
