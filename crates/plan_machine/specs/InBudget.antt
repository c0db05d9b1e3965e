-- The most events of a run.
use Rattle.std.specs.Prelude.{ℕ, ◌+◌, ◌≤◌, List, [], ◌∷◌, length}
use Rattle.plan_image.specs.declared.image.Parts.{Parts}
use Rattle.plan_verify.specs.Turn.{Meaning}
use Rattle.plan_verify.specs.WellShaped.{IsWellShaped}
use Rattle.plan_verify.specs.Budget.{image_budget, brought, IsFrugal}
use Rattle.plan_machine.specs.Limits.{Limits}
use Rattle.plan_machine.specs.declared.event.Event.{Event}
use Rattle.plan_machine.specs.declared.event.Event.TheVariants.{Reply as Hear}
use Rattle.plan_machine.specs.declared.event.Mark.{Mark}
use Rattle.plan_machine.specs.State.{State}
use Rattle.plan_machine.specs.Step.{answer_of}
use Rattle.plan_machine.specs.Runs.{Reached}

-- the number of dependency bytes in an event
abbrev pub bytes_of : Event → ℕ
bytes_of (Hear e r) = brought (answer_of r)
bytes_of _ = 0

abbrev pub all_bytes : List Event → ℕ
all_bytes [] = 0
all_bytes (event ∷ events) = bytes_of event + all_bytes events

-- the number of events in a run is at most the budget plus the number of dependency bytes
abbrev pub StaysInBudget : Type 0
StaysInBudget =
    (meaning : Meaning) → IsFrugal meaning → (p : Parts) → IsWellShaped p → (limits : Limits) (targets : List ℕ) (events : List Event) (marks : List Mark) (s : State)
    → Reached meaning p limits targets events marks s → length events ≤ image_budget p + all_bytes events
