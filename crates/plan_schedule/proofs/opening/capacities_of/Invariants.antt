use Rattle.std.proofs.Common.{◌≡◌, ◌<◌, ◌≤◌, ◌+◌, ℕ, length, take}
use Rattle.std.specs.Prelude.{slice_index}
use Rattle.plan_schedule.specs.BucketContents.{bucket_len}
use Rattle.plan_schedule.proofs.opening.capacities_of.Given as goal

abbrev pub invariant-loop-pool : goal.invariant-loop-pool
invariant-loop-pool l = (length l.capacities.items ≡ 5 + l.pool_count) × ((s : ℕ) → s < 5 → slice_index l.capacities.items s ≡ length l.pools) × ((p : ℕ) → p < l.pool_count → slice_index l.capacities.items (5 + p) ≡ bucket_len p (take l.pool-index l.pools))
