-- The schedule of the edges of a plan.
use Rattle.std.specs.Prelude.{◌≡◌, ◌<◌, ◌+◌, ◌^◌, not, true, false, ℕ, List, Option, None, Some, [], All, Contains, count_by, get_or, length, slice_index}
use Rattle.plan_schedule.specs.BucketContents.{bucket_len}
use Rattle.plan_schedule.specs.declared.phase.Phase.{Phase}
use Rattle.plan_schedule.specs.declared.plan.Plan.{Plan}
use Rattle.plan_schedule.specs.declared.schedule.Schedule.{Schedule}
use Rattle.plan_schedule.specs.declared.bucket_rules.EdgeBucket.TheVariants.{AtTakeOf}
use Rattle.plan_schedule.specs.Phases.{is_unsuccessful, has_succeeded, phase_at}
use Rattle.plan_schedule.specs.Counts.{AreCounts}
use Rattle.plan_schedule.specs.BucketRules.{AreBuckets, ArePoolBuckets, failed_wait_at, edge_row, pool_row_for, row_of}

-- the number of edges of a plan
abbrev pub edges_of : Plan → ℕ
edges_of plan = length plan.waits.items

-- the waits of an edge, and the edges that wait for it
abbrev pub waits_of : Plan → ℕ → List ℕ
waits_of plan e = get_or plan.waits.items e []

abbrev pub dependents_of : Plan → ℕ → List ℕ
dependents_of plan w = get_or plan.dependents.items w []

pub record IsPlan (plan : Plan) : Type 0 where
  pub few : edges_of plan + 1 < 2 ^ 32
  pub pools_sized : length plan.pools.items ≡ edges_of plan
  pub in_pools : (e : ℕ) → e < edges_of plan → slice_index plan.pools.items e < length plan.depths.items
  pub few_pools : length plan.depths.items + 5 < 2 ^ 32
  pub waits_in : (e : ℕ) → All (λ w. w < edges_of plan) (waits_of plan e)
  pub dependents_in : (w : ℕ) → All (λ u. u < edges_of plan) (dependents_of plan w)
  pub short : (e : ℕ) → length (waits_of plan e) < 2 ^ 32
  pub dependents_sized : length plan.dependents.items ≡ edges_of plan
  pub turned : (e w : ℕ) → e < edges_of plan → w < edges_of plan → bucket_len e (dependents_of plan w) ≡ bucket_len w (waits_of plan e)

-- the part of the invariant that doesn't mention waits: the counts are right, and each edge and pool is in its
-- bucket
pub record IsKept (plan : Plan) (b : Schedule) : Type 0 where
  pub phases_sized : length b.phases.items ≡ edges_of plan
  pub waiting_sized : length b.waiting.items ≡ edges_of plan
  pub failed_wait_sized : length b.failed_wait.items ≡ edges_of plan
  pub holders_sized : length b.counts.pool_holders.items ≡ length plan.depths.items
  pub counts : AreCounts plan.pools.items b.phases.items b.counts.pool_holders.items b.counts.holders b.counts.failures b.counts.open_edges
  pub buckets : AreBuckets (edges_of plan) (length plan.depths.items) plan.pools.items b.buckets
  pub filed : (e : ℕ) → e < edges_of plan → slice_index b.buckets.bucket e ≡ row_of plan.pools.items b.phases.items b.waiting.items b.failed_wait.items e
  pub pool_buckets : ArePoolBuckets (length plan.depths.items) b.pool_buckets
  pub pools_filed : (p : ℕ) → p < length plan.depths.items
      → slice_index b.pool_buckets.bucket p ≡ pool_row_for (bucket_len (edge_row (AtTakeOf p)) b.buckets.bucket) (slice_index b.counts.pool_holders.items p) (slice_index plan.depths.items p)

-- one of the waits failed, was skipped or was stopped, or none was
abbrev pub IsFailedWait : List Phase → List ℕ → Option ℕ → Type 0
IsFailedWait phases waits None = (w : ℕ) → Contains waits w → is_unsuccessful (phase_at phases w) ≡ false
IsFailedWait phases waits (Some w) = Contains waits w × (is_unsuccessful (phase_at phases w) ≡ true)

-- the number of these edges that haven't succeeded
abbrev pub count_unsucceeded : List Phase → List ℕ → ℕ
count_unsucceeded phases waits = count_by (λ w. not (has_succeeded (phase_at phases w))) waits

-- the schedule agrees with its phases
pub record IsSchedule (plan : Plan) (b : Schedule) : Type 0 where
  pub kept : IsKept plan b
  pub waiting : (e : ℕ) → e < edges_of plan → slice_index b.waiting.items e ≡ count_unsucceeded b.phases.items (waits_of plan e)
  pub failed_waits_are : (e : ℕ) → e < edges_of plan → IsFailedWait b.phases.items (waits_of plan e) (failed_wait_at b.failed_wait.items e)
