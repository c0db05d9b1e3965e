-- The next event without a reply.
use Rattle.std.specs.Prelude.{◌≡◌, ◌≢◌, ◌==◌, ◌<◌, ◌≤◌, ◌⊎◌, ◌&&◌, ◌||◌, nat_le, nat_lt, true, false, Bool, ℕ, List, All, Contains, count_by, length, slice_index}
use Rattle.plan_schedule.specs.declared.phase.Phase.{Phase}
use Rattle.plan_schedule.specs.declared.phase.Phase.TheVariants.{Unbegun, Runnable, AtTake}
use Rattle.plan_schedule.specs.declared.bucket_rules.EdgeBucket.{EdgeBucket}
use Rattle.plan_schedule.specs.declared.bucket_rules.EdgeBucket.TheVariants.{Pending, Startable, Skippable}
use Rattle.plan_schedule.specs.declared.bucket_rules.PoolBucket.{PoolBucket}
use Rattle.plan_schedule.specs.declared.bucket_rules.PoolBucket.TheVariants.{Free, Full}
use Rattle.plan_schedule.specs.declared.plan.Plan.{Plan}
use Rattle.plan_schedule.specs.declared.schedule.Schedule.{Schedule}
use Rattle.plan_schedule.specs.declared.schedule.picking.Pick.{Pick}
use Rattle.plan_schedule.specs.declared.schedule.picking.Pick.TheVariants.{Start, Skip, Stop, Step}
use Rattle.plan_schedule.specs.Phases.{has_failed, holds, is_unsuccessful, has_succeeded, phase_at}
use Rattle.plan_schedule.specs.Counts.{holders_of}
use Rattle.plan_schedule.specs.BucketRules.{edge_row, pool_row}
use Rattle.plan_schedule.specs.Scheduling.{edges_of, waits_of}

-- the failure limit has been reached
abbrev pub is_spent : ℕ → List Phase → Bool
is_spent keep phases = nat_lt 0 keep && nat_le keep (count_by has_failed phases)

-- the pool of an edge has a free job token
abbrev pub has_room : Plan → List Phase → ℕ → Bool
has_room plan phases p = (slice_index plan.depths.items p == 0) || nat_lt (holders_of p plan.pools.items phases) (slice_index plan.depths.items p)

-- an edge at Take may take a job token
abbrev pub MayTake : Plan → List Phase → ℕ → ℕ → ℕ → Type 0
MayTake plan phases jobs keep e = (has_room plan phases (slice_index plan.pools.items e) ≡ true) × (count_by holds phases < jobs) × (is_spent keep phases ≡ false)

abbrev pub IsEnabled : Plan → List Phase → ℕ → ℕ → Pick → Type 0
IsEnabled plan phases jobs keep (Start e) = (e < edges_of plan) × (phase_at phases e ≡ Unbegun) × All (λ w. has_succeeded (phase_at phases w) ≡ true) (waits_of plan e)
IsEnabled plan phases jobs keep (Skip e w) = (e < edges_of plan) × (phase_at phases e ≡ Unbegun) × Contains (waits_of plan e) w × (is_unsuccessful (phase_at phases w) ≡ true)
IsEnabled plan phases jobs keep (Stop e) = (e < edges_of plan) × (is_spent keep phases ≡ true) × ((phase_at phases e ≡ Unbegun) ⊎ ((h : Bool) × (phase_at phases e ≡ AtTake h)))
IsEnabled plan phases jobs keep (Step e) = (e < edges_of plan) × (((h : Bool) × (phase_at phases e ≡ Runnable h)) ⊎ (((h : Bool) × (phase_at phases e ≡ AtTake h)) × MayTake plan phases jobs keep e))

abbrev pub is_step : Pick → Bool
is_step (Step e) = true
is_step _ = false

-- the event is a step, if one is enabled
abbrev pub StepsFirst : Plan → List Phase → ℕ → ℕ → Pick → Type 0
StepsFirst plan phases jobs keep pick = (e : ℕ) → IsEnabled plan phases jobs keep (Step e) → is_step pick ≡ true

abbrev pub is_start : Pick → Bool
is_start (Start e) = true
is_start _ = false

-- a start that is enabled, whatever the number of jobs
abbrev pub IsEnabledStart : Plan → List Phase → ℕ → Pick → Type 0
IsEnabledStart plan phases keep pick = (is_start pick ≡ true) × ((jobs : ℕ) → IsEnabled plan phases jobs keep pick)

-- the failure limit has been reached, an edge can make a step without a job token, or no edge can start
abbrev pub StartsWait : Plan → List Phase → ℕ → Type 0
StartsWait plan phases keep =
    (is_spent keep phases ≡ true)
    ⊎ (((e : ℕ) × (h : Bool) × (e < edges_of plan) × (phase_at phases e ≡ Runnable h))
    ⊎ ((jobs e : ℕ) → IsEnabled plan phases jobs keep (Start e) → ⊥))

-- no number is in this row
abbrev pub IsEmptyRow : List ℕ → ℕ → Type 0
IsEmptyRow bucket s = (e : ℕ) → e < length bucket → slice_index bucket e ≢ s

-- no edge is in this bucket
abbrev pub NoEdgeIn : Schedule → EdgeBucket → Type 0
NoEdgeIn b bucket = IsEmptyRow b.buckets.bucket (edge_row bucket)

-- no pool is in this bucket
abbrev pub NoPoolIn : Schedule → PoolBucket → Type 0
NoPoolIn b bucket = IsEmptyRow b.pool_buckets.bucket (pool_row bucket)

-- no edge at Take can take a job token or be stopped
abbrev pub AtTakeStays : Plan → Schedule → ℕ → ℕ → Type 0
AtTakeStays plan b jobs keep =
    ((is_spent keep b.phases.items ≡ true) × NoPoolIn b Free × NoPoolIn b Full)
    ⊎ ((is_spent keep b.phases.items ≡ false) × ((jobs ≤ count_by holds b.phases.items) ⊎ NoPoolIn b Free))

-- no edge that hasn't begun can start, be skipped or be stopped
abbrev pub UnbegunStays : Schedule → ℕ → Type 0
UnbegunStays b keep = NoEdgeIn b Skippable × NoEdgeIn b Startable × ((is_spent keep b.phases.items ≡ false) ⊎ NoEdgeIn b Pending)
