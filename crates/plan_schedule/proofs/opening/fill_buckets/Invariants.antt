use Rattle.std.proofs.Common.{◌≡◌, ◌<◌, ℕ, false, get_or, length}
use Rattle.std.specs.Prelude.{slice_index}
use Rattle.plan_schedule.specs.BucketRules.{AreBuckets, edge_row}
use Rattle.plan_schedule.specs.Opening.{opening_bucket}
use Rattle.plan_schedule.proofs.opening.fill_buckets.Given as goal

abbrev pub invariant-loop-edge : goal.invariant-loop-edge
invariant-loop-edge l = AreBuckets (length l.pools) l.pool_count l.pools l.buckets × ((e : ℕ) → e < l.edge → slice_index l.buckets.bucket e ≡ edge_row (opening_bucket (get_or l.wanted e false) (slice_index l.waiting e)))
