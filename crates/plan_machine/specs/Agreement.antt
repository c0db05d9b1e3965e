-- Two ended runs in which each edge got the same replies agree.
use Rattle.std.specs.Prelude.{◌≡◌, ℕ, true, List, [], ◌∷◌, Option, Some, None, ◌==◌, if◌then◌else◌, slice_get}
use Rattle.plan_image.specs.declared.image.Parts.{Parts}
use Rattle.plan_verify.specs.Turn.{Meaning}
use Rattle.plan_verify.specs.WellShaped.{IsWellShaped}
use Rattle.plan_machine.specs.Limits.{Limits}
use Rattle.plan_machine.specs.declared.event.reply.Reply.{Reply}
use Rattle.plan_machine.specs.declared.event.Event.{Event}
use Rattle.plan_machine.specs.declared.event.Event.TheVariants.{Reply as Hear}
use Rattle.plan_machine.specs.declared.event.Mark.{Mark}
use Rattle.plan_machine.specs.declared.event.Outcome.{Outcome}
use Rattle.plan_machine.specs.declared.event.Outcome.TheVariants.{Skipped}
use Rattle.plan_machine.specs.State.{State, has_ended, outcome_at}
use Rattle.plan_machine.specs.Runs.{Reached}

-- the replies that an edge got, in order
abbrev pub replies_to : ℕ → List Event → List Reply
replies_to e [] = []
replies_to e (Hear f r ∷ events) = if f == e then r ∷ replies_to e events else replies_to e events
replies_to e (event ∷ events) = replies_to e events

-- the same outcome; skipped edges may name different edges
abbrev pub AreAlike : Outcome → Outcome → Type 0
AreAlike (Skipped v) (Skipped w) = Unit {0}
AreAlike x y = x ≡ y

abbrev pub BothAlike : Option Outcome → Option Outcome → Type 0
BothAlike (Some x) (Some y) = AreAlike x y
BothAlike None None = Unit {0}
BothAlike _ _ = ⊥

-- the same outcomes and the same slots
pub record EndAlike (s t : State) : Type 0 where
  pub outcomes : (e : ℕ) → BothAlike (outcome_at (slice_get s.edges e)) (outcome_at (slice_get t.edges e))
  pub slots : s.slots ≡ t.slots

-- If there is no failure limit, two ended runs of one image from the same targets, in which each edge got the
-- same replies in the same order, end alike. The numbers of jobs may differ.
abbrev pub InterleavingsAgree : Type 0
InterleavingsAgree =
    (meaning : Meaning) (p : Parts) → IsWellShaped p → (limits other : Limits) → limits.keep ≡ 0 → other.keep ≡ 0 → (targets : List ℕ)
    → (events : List Event) (marks : List Mark) (s : State) → Reached meaning p limits targets events marks s → has_ended s ≡ true
    → (events2 : List Event) (marks2 : List Mark) (t : State) → Reached meaning p other targets events2 marks2 t → has_ended t ≡ true
    → ((e : ℕ) → replies_to e events ≡ replies_to e events2) → EndAlike s t
