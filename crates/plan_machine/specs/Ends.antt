-- The comparison of the ends of two lists of events, each from the opening state for the image's defaults.
use Rattle.std.specs.Prelude.{◌≡◌, ◌↔◌, ◌⊎◌, ℕ, ◌+◌, Bool, true, List, [], length}
use Rattle.plan_image.specs.declared.image.Parts.{Parts}
use Rattle.plan_machine.specs.Limits.{Limits}
use Rattle.plan_machine.specs.declared.event.Event.{Event}
use Rattle.plan_machine.specs.declared.event.Mark.{Mark}
use Rattle.plan_machine.specs.declared.run.refused.Refused.{Refused}
use Rattle.plan_machine.specs.State.{State, has_ended}
use Rattle.plan_machine.specs.Sameness.{same_ends}
use Rattle.plan_machine.specs.Runs.{Reached}
use Rattle.plan_machine.specs.Depfile.{depfile}
use Rattle.plan_machine.specs.Agreement.{EndAlike, replies_to}
use Rattle.plan_machine.specs.Replaying.{IsReplayFault}

-- the events can be replayed, and lead to this state
pub record EndsIn (p : Parts) (limits : Limits) (events : List Event) (end : State) : Type 0 where
  pub marks : List Mark
  pub reached : Reached depfile p limits [] events marks end

-- the events can be replayed, and the result compares the state that they lead to with this one
pub record ComparesEnd (p : Parts) (limits : Limits) (end : State) (events : List Event) (same : Bool) : Type 0 where
  pub other : State
  pub ends : EndsIn p limits events other
  pub is : same ≡ same_ends end other

-- both lists can be replayed, and the result is true if and only if both have ended, with the same outcomes and
-- the same slots
pub record TellsEnds (p : Parts) (limits : Limits) (first second : List Event) (same : Bool) : Type 0 where
  pub end : State
  pub other : State
  pub first_ends : EndsIn p limits first end
  pub second_ends : EndsIn p limits second other
  pub tells : (same ≡ true) ↔ ((has_ended end ≡ true) × (has_ended other ≡ true) × EndAlike end other)

-- if there is no failure limit, ended lists in which each edge got the same replies compare as the same
abbrev pub NeverTellsApart : Parts → Limits → List Event → List Event → Bool → Type 0
NeverTellsApart p limits first second same =
    limits.keep ≡ 0 → (end other : State) → EndsIn p limits first end → has_ended end ≡ true → EndsIn p limits second other → has_ended other ≡ true
    → ((e : ℕ) → replies_to e first ≡ replies_to e second) → same ≡ true

-- The reason why two lists weren't compared, and the index of the event, counted through the first list and
-- then the second: the first list couldn't be replayed, or the second one couldn't when the first one was.
abbrev pub IsEndFault : Parts → Limits → List Event → List Event → ℕ → Refused → Type 0
IsEndFault p limits first second n refused =
    IsReplayFault p limits [] first n refused
    ⊎ ((end : State) × EndsIn p limits first end × (m : ℕ) × (n ≡ length first + m) × IsReplayFault p limits [] second m refused)
