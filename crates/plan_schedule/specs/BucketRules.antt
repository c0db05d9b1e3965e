-- The bucket of each edge, and of each pool.
use Rattle.std.specs.Prelude.{◌≡◌, ◌==◌, ◌<◌, ◌≤◌, ◌+◌, ◌||◌, nat_lt, if◌then◌else◌, ℕ, List, Option, None, Some, get_or, length, slice_index}
use Rattle.plan_schedule.specs.BucketContents.{BucketContents, bucket_len}
use Rattle.plan_schedule.specs.declared.phase.Phase.{Phase}
use Rattle.plan_schedule.specs.declared.phase.Phase.TheVariants.{Unbegun, Runnable, AtTake, Waiting, Succeeded, Failed, Abandoned, NotWanted}
use Rattle.plan_schedule.specs.declared.bucket_rules.EdgeBucket.{EdgeBucket}
use Rattle.plan_schedule.specs.declared.bucket_rules.EdgeBucket.TheVariants.{Resting, Pending, Startable, Skippable, Steppable, AtTakeOf}
use Rattle.plan_schedule.specs.declared.bucket_rules.PoolBucket.{PoolBucket}
use Rattle.plan_schedule.specs.declared.bucket_rules.PoolBucket.TheVariants.{Idle, Free, Full}
use Rattle.plan_schedule.specs.Phases.{phase_at}

abbrev pub failed_wait_at : List (Option ℕ) → ℕ → Option ℕ
failed_wait_at failed_wait e = get_or failed_wait e None

-- the row of each bucket of edges: those at Take have one row for each pool
abbrev pub edge_row : EdgeBucket → ℕ
edge_row Resting = 0
edge_row Pending = 1
edge_row Startable = 2
edge_row Skippable = 3
edge_row Steppable = 4
edge_row (AtTakeOf pool) = 5 + pool

-- the row of each bucket of pools
abbrev pub pool_row : PoolBucket → ℕ
pool_row Idle = 0
pool_row Free = 1
pool_row Full = 2

-- an edge that hasn't begun: one of its waits failed, was skipped or was stopped, or all succeeded, or some
-- have no outcome
abbrev pub unbegun_bucket : ℕ → Option ℕ → EdgeBucket
unbegun_bucket waiting (Some w) = Skippable
unbegun_bucket waiting None = if waiting == 0 then Startable else Pending

-- the bucket of an edge
abbrev pub bucket_for : Phase → ℕ → Option ℕ → ℕ → EdgeBucket
bucket_for Unbegun waiting failed_wait pool = unbegun_bucket waiting failed_wait
bucket_for (Runnable holds) waiting failed_wait pool = Steppable
bucket_for (AtTake holds) waiting failed_wait pool = AtTakeOf pool
bucket_for (Waiting holds) waiting failed_wait pool = Resting
bucket_for Succeeded waiting failed_wait pool = Resting
bucket_for Failed waiting failed_wait pool = Resting
bucket_for Abandoned waiting failed_wait pool = Resting
bucket_for NotWanted waiting failed_wait pool = Resting

abbrev pub row_for : Phase → ℕ → Option ℕ → ℕ → ℕ
row_for phase waiting failed_wait pool = edge_row (bucket_for phase waiting failed_wait pool)

-- the row in which an edge must be
abbrev pub row_of : List ℕ → List Phase → List ℕ → List (Option ℕ) → ℕ → ℕ
row_of pools phases waiting failed_wait e = row_for (phase_at phases e) (slice_index waiting e) (failed_wait_at failed_wait e) (slice_index pools e)

-- a pool: no edge of it is at Take, or one is and a job token is free, or it is full
abbrev pub pool_bucket_for : ℕ → ℕ → ℕ → PoolBucket
pool_bucket_for at_take holders depth = if at_take == 0 then Idle else (if (depth == 0) || nat_lt holders depth then Free else Full)

abbrev pub pool_row_for : ℕ → ℕ → ℕ → ℕ
pool_row_for at_take holders depth = pool_row (pool_bucket_for at_take holders depth)

-- there are enough buckets, and each has enough room
pub record AreBuckets (edges pools : ℕ) (pool_of : List ℕ) (f : BucketContents) : Type 0 where
  pub sized : length f.bucket ≡ edges
  pub many : length f.capacity ≡ 5 + pools
  pub common : (s : ℕ) → s < 5 → edges ≤ slice_index f.capacity s
  pub pool_capacities : (p : ℕ) → p < pools → bucket_len p pool_of ≤ slice_index f.capacity (5 + p)

pub record ArePoolBuckets (pools : ℕ) (f : BucketContents) : Type 0 where
  pub sized : length f.bucket ≡ pools
  pub many : length f.capacity ≡ 3
  pub capacities : (s : ℕ) → s < 3 → pools ≤ slice_index f.capacity s
