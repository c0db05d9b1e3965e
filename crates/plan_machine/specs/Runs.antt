-- Runs, from the state that an image opens with.
use Rattle.std.specs.Prelude.{◌≡◌, ℕ, Bool, true, false, List, [], ◌∷◌, length, map, replicate, Option, None}
use Rattle.plan_image.specs.declared.image.Parts.{Parts}
use Rattle.plan_verify.specs.declared.value.Value.{Value}
use Rattle.plan_verify.specs.Turn.{Meaning}
use Rattle.plan_machine.specs.Limits.{Limits}
use Rattle.plan_machine.specs.declared.event.Event.{Event}
use Rattle.plan_machine.specs.declared.event.Mark.{Mark}
use Rattle.plan_machine.specs.declared.event.Outcome.TheVariants.{NotWanted}
use Rattle.plan_machine.specs.State.{Status, Unbegun, Over, State}
use Rattle.plan_machine.specs.Step.{Next, step}
use Rattle.plan_machine.specs.Wanted.{AreWanted}

-- the status of an edge at the start
abbrev pub at_first : Bool → Status
at_first true = Unbegun
at_first false = Over NotWanted

-- a state that an image opens with
pub record Opens (p : Parts) (targets : List ℕ) (s : State) : Type 0 where
  pub wanted : List Bool
  pub are : AreWanted p targets wanted
  pub edges : s.edges ≡ map at_first wanted
  pub slots : s.slots ≡ replicate {A = Option Value} (length p.slots) None

-- these events, one after another, lead from one state to another and have these marks
abbrev pub Runs : Meaning → Parts → Limits → State → List Event → List Mark → State → Type 0
Runs meaning p limits s [] [] end = s ≡ end
Runs meaning p limits s (event ∷ events) (mark ∷ marks) end =
    (mid : State) × (step meaning p limits s event ≡ Next mid mark) × Runs meaning p limits mid events marks end
Runs meaning p limits s [] (mark ∷ marks) end = ⊥
Runs meaning p limits s (event ∷ events) [] end = ⊥

-- a state that these events reach
pub record Reached (meaning : Meaning) (p : Parts) (limits : Limits) (targets : List ℕ) (events : List Event) (marks : List Mark) (s : State) : Type 0 where
  pub start : State
  pub opens : Opens p targets start
  pub run : Runs meaning p limits start events marks s
