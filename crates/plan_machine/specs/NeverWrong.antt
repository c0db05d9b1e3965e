-- Runs never go wrong.
use Rattle.std.specs.Prelude.{◌≢◌, ℕ, List}
use Rattle.plan_image.specs.declared.image.Parts.{Parts}
use Rattle.plan_verify.specs.Turn.{Flaw, Meaning}
use Rattle.plan_verify.specs.WellShaped.{IsWellShaped}
use Rattle.plan_machine.specs.Limits.{Limits}
use Rattle.plan_machine.specs.declared.event.Event.{Event}
use Rattle.plan_machine.specs.declared.event.Mark.{Mark}
use Rattle.plan_machine.specs.State.{State}
use Rattle.plan_machine.specs.Step.{Wrong, step}
use Rattle.plan_machine.specs.Runs.{Reached}

-- no event of a reached state goes wrong
abbrev pub NeverWrong : Type 0
NeverWrong =
    (meaning : Meaning) (p : Parts) → IsWellShaped p → (limits : Limits) (targets : List ℕ) (events : List Event) (marks : List Mark) (s : State)
    → Reached meaning p limits targets events marks s → (event : Event) (flaw : Flaw) → step meaning p limits s event ≢ Wrong flaw
