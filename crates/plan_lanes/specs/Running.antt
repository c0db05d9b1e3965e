-- Commands that run at the same time, and their job tokens.
use Rattle.std.specs.Prelude.{◌≡◌, ◌≤◌, ◌<◌, ◌+◌, ◌&&◌, ℕ, Bool, true, false, List, [], ◌∷◌, Option, Some, None, if◌then◌else◌, slice_get}
use Rattle.plan_image.specs.declared.image.Edge.{Edge}
use Rattle.plan_image.specs.declared.image.Pool.{Pool}
use Rattle.plan_image.specs.declared.image.Parts.{Parts}
use Rattle.plan_verify.specs.Tables.{pool_of}
use Rattle.plan_verify.specs.Turn.{Meaning, Request, Run}
use Rattle.plan_verify.specs.WellShaped.{IsWellShaped}
use Rattle.plan_machine.specs.declared.event.Event.{Event}
use Rattle.plan_machine.specs.declared.event.Mark.{Mark}
use Rattle.plan_machine.specs.Limits.{Limits}
use Rattle.plan_machine.specs.Places.{is_pool}
use Rattle.plan_machine.specs.Requests.{asked_at}
use Rattle.plan_machine.specs.Runs.{Reached}
use Rattle.plan_machine.specs.State.{State, is_holder, stands}
use Rattle.plan_lanes.specs.Questions.{is_run}

-- an edge asked to run its command, and awaits the reply
abbrev pub awaits_run : Option Request → Bool
awaits_run (Some q) = is_run q
awaits_run None = false

-- the number of these edges that do so; the first of them has the number e
abbrev pub running : Parts → State → ℕ → List Edge → ℕ
running p s e [] = 0
running p s e (edge ∷ edges) = (if awaits_run (asked_at p s e) then 1 else 0) + running p s (e + 1) edges

-- the number of these edges that do so and are in a pool
abbrev pub running_of : Parts → ℕ → State → ℕ → List Edge → ℕ
running_of p pool s e [] = 0
running_of p pool s e (edge ∷ edges) = (if is_pool pool (pool_of p e) && awaits_run (asked_at p s e) then 1 else 0) + running_of p pool s (e + 1) edges

pub record KeepsToPlaces (p : Parts) (limits : Limits) (s : State) : Type 0 where
  -- an edge that asked to run its command holds a job token as long as it awaits the reply
  pub holds : (e : ℕ) (command : List ℕ) (outputs : List (List ℕ)) → asked_at p s e ≡ Some (Run command outputs) → stands is_holder s e ≡ true
  -- the number of edges that await such a reply is at most the number of jobs
  pub in_jobs : running p s 0 p.edges ≤ limits.jobs
  -- in each pool it is at most the depth
  pub in_depth : (pool : ℕ) (row : Pool) → slice_get p.pools pool ≡ Some row → 0 < row.depth → running_of p pool s 0 p.edges ≤ row.depth

-- this holds in each state that a run reaches
abbrev pub CommandsKeepToPlaces : Type 0
CommandsKeepToPlaces =
    (meaning : Meaning) (p : Parts) → IsWellShaped p → (limits : Limits) (targets : List ℕ) (events : List Event) (marks : List Mark) (s : State)
    → Reached meaning p limits targets events marks s → KeepsToPlaces p limits s
