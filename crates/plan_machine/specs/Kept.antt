-- The schedule of a running image: counts and buckets, which agree with the statuses of its edges.
use Rattle.std.specs.Prelude.{◌≡◌, ℕ, ◌+◌, ◌<◌, Bool, true, false, List, [], ◌∷◌, length, map, Option, Some, None, slice_get, slice_set, slice_index}
use Rattle.plan_image.specs.declared.image.Pool.{Pool}
use Rattle.plan_image.specs.declared.image.Parts.{Parts}
use Rattle.plan_image.specs.Spelling.{pool_number}
use Rattle.plan_verify.specs.Tables.{pool_of, waits_of}
use Rattle.plan_schedule.specs.declared.phase.Phase.{Phase}
use Rattle.plan_schedule.specs.declared.phase.Phase.TheVariants as phase
use Rattle.plan_schedule.specs.declared.plan.Plan.{Plan}
use Rattle.plan_schedule.specs.declared.schedule.Schedule.{Schedule}
use Rattle.plan_schedule.specs.Scheduling.{IsSchedule, IsPlan, edges_of, waits_of as waits_by}
use Rattle.plan_machine.specs.declared.event.Mark.{Mark}
use Rattle.plan_machine.specs.declared.event.Outcome.{Outcome}
use Rattle.plan_machine.specs.declared.event.Outcome.TheVariants.{Clean, Ran, Failed, Skipped, Stopped, NotWanted}
use Rattle.plan_machine.specs.declared.event.Event.{Event}
use Rattle.plan_machine.specs.State.{Status, Unbegun, Active, Over, State, is_over}
use Rattle.plan_machine.specs.Places.{at_take}
use Rattle.plan_machine.specs.RunState.{RunState}
use Rattle.plan_machine.specs.Runs.{Reached}
use Rattle.plan_machine.specs.Depfile.{depfile}
use Rattle.plan_machine.specs.Total.{is_wanted, total_of}

-- a running image with its schedule, and the number of commands that it may run
pub record Running : Type 0 where
  pub run_state : RunState
  pub plan : Plan
  pub schedule : Schedule
  pub total : ℕ

-- ---- phases

abbrev pub phase_over : Outcome → Phase
phase_over Clean = phase.Succeeded
phase_over Ran = phase.Succeeded
phase_over (Failed cause) = phase.Failed
phase_over (Skipped w) = phase.Abandoned
phase_over Stopped = phase.Abandoned
phase_over NotWanted = phase.NotWanted

abbrev pub phase_going : Bool → Bool → Phase
phase_going true holding = phase.AtTake holding
phase_going false holding = phase.Runnable holding

abbrev pub phase_active : Bool → Bool → Bool → Phase
phase_active true taking holding = phase.Waiting holding
phase_active false taking holding = phase_going taking holding

-- the phase that the schedule stores for a status
abbrev pub phase_of : Parts → ℕ → Status → Phase
phase_of p e Unbegun = phase.Unbegun
phase_of p e (Active l) = phase_active l.asked (at_take p e l) l.holding
phase_of p e (Over outcome) = phase_over outcome

-- the phase of an edge that may be outside the image
abbrev pub phase_in : Parts → ℕ → Option Status → Phase
phase_in p e (Some status) = phase_of p e status
phase_in p e None = phase.NotWanted

-- whether an edge may make a step, given whether a job token is free for it
abbrev pub steps_by : Phase → Bool → Bool
steps_by (phase.Runnable holding) free = true
steps_by (phase.AtTake holding) free = free
steps_by _ free = false

-- the phases of the edges from e on
abbrev pub phases_from : Parts → ℕ → List Status → List Phase
phases_from p e [] = []
phases_from p e (status ∷ rest) = phase_of p e status ∷ phases_from p (e + 1) rest

-- ---- the schedule agrees with the state

-- the fixed data are those of the image; pools count from 1
pub record IsPlanOf (p : Parts) (plan : Plan) : Type 0 where
  pub good : IsPlan plan
  pub edges : edges_of plan ≡ length p.edges
  pub waits : (e : ℕ) → waits_by plan e ≡ waits_of p e
  pub pools : (e : ℕ) → e < length p.edges → slice_index plan.pools.items e ≡ pool_number (pool_of p e)
  pub depths : plan.depths.items ≡ 0 ∷ map (λ (pool : Pool). pool.depth) p.pools

-- each count is that over the edges of this state, and each edge is in the bucket for what it can do
pub record AreKept (p : Parts) (s : State) (plan : Plan) (schedule : Schedule) : Type 0 where
  pub plan_is : IsPlanOf p plan
  pub long : length s.edges ≡ length p.edges
  pub phases : schedule.phases.items ≡ phases_from p 0 s.edges
  pub fit : IsSchedule plan schedule

-- a state of this image: a run from an opening reaches it, and its schedule agrees with it
pub record IsStateOf (p : Parts) (r : Running) : Type 0 where
  pub targets : List ℕ
  pub events : List Event
  pub marks : List Mark
  pub reached : Reached depfile p r.run_state.limits targets events marks r.run_state.now
  pub kept : AreKept p r.run_state.now r.plan r.schedule
  pub counted : r.total ≡ total_of p r.run_state.now

-- the status of one edge, which had no outcome, changed
pub record Changed (s new : State) (e : ℕ) : Type 0 where
  pub before : Status
  pub after : Status
  pub now : slice_get s.edges e ≡ Some before
  pub was_open : is_over before ≡ false
  pub still_wanted : is_wanted after ≡ true
  pub left : new.edges ≡ slice_set s.edges e after

-- the schedule agrees with an earlier state, in which only the status of one edge was different
pub record IsBehind (p : Parts) (r : Running) (e : ℕ) : Type 0 where
  pub old : State
  pub kept : AreKept p old r.plan r.schedule
  pub changed : Changed old r.run_state.now e
