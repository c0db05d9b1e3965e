-- Runs don't get stuck.
use Rattle.std.specs.Prelude.{◌≡◌, ◌⊎◌, ◌<◌, ℕ, Bool, true, false, List, Some, slice_get}
use Rattle.plan_image.specs.declared.image.Parts.{Parts}
use Rattle.plan_verify.specs.Turn.{Local, Meaning}
use Rattle.plan_verify.specs.WellShaped.{IsWellShaped}
use Rattle.plan_machine.specs.Limits.{Limits}
use Rattle.plan_machine.specs.declared.event.Event.{Event}
use Rattle.plan_machine.specs.declared.event.Event.TheVariants.{Reply as Hear}
use Rattle.plan_machine.specs.declared.event.Mark.{Mark}
use Rattle.plan_machine.specs.State.{Active, State, has_ended}
use Rattle.plan_machine.specs.Step.{Next, step}
use Rattle.plan_machine.specs.Runs.{Reached}

-- an event that needs no reply
abbrev pub is_own : Event → Bool
is_own (Hear e r) = false
is_own _ = true

-- a Start, Skip, Stop or Step is enabled
pub record CanGo (meaning : Meaning) (p : Parts) (limits : Limits) (s : State) : Type 0 where
  pub event : Event
  pub own : is_own event ≡ true
  pub after : State
  pub mark : Mark
  pub enabled : step meaning p limits s event ≡ Next after mark

-- an edge has asked and has no reply yet
pub record Awaits (s : State) : Type 0 where
  pub edge : ℕ
  pub local : Local
  pub active : slice_get s.edges edge ≡ Some (Active local)
  pub asked : local.asked ≡ true

-- each reached state has ended, can go on, or awaits a reply
abbrev pub NeverStuck : Type 0
NeverStuck =
    (meaning : Meaning) (p : Parts) → IsWellShaped p → (limits : Limits) → 0 < limits.jobs → (targets : List ℕ) (events : List Event) (marks : List Mark) (s : State)
    → Reached meaning p limits targets events marks s → (has_ended s ≡ true) ⊎ (CanGo meaning p limits s ⊎ Awaits s)
