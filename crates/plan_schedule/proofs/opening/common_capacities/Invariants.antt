use Rattle.std.proofs.Common.{◌≡◌, ◌<◌, ◌≤◌, ◌+◌, ℕ, length}
use Rattle.std.specs.Prelude.{slice_index}
use Rattle.plan_schedule.proofs.opening.common_capacities.Given as goal

abbrev pub invariant-loop-bucket : goal.invariant-loop-bucket
invariant-loop-bucket l = (length l.capacities.items ≡ 5 + l.pool_count) × ((s : ℕ) → s < l.bucket → slice_index l.capacities.items s ≡ l.edges) × ((s : ℕ) → 5 ≤ s → slice_index l.capacities.items s ≡ 0)
