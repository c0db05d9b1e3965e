-- The result of an event in the code, and the state after it.
use Rattle.std.specs.Prelude.{◌≡◌, ℕ, ◌<◌, Bool, true, false, not, ◌||◌, ◌&&◌, length, Option, Some, Result, Ok, Err, slice_get, slice_set}
use Rattle.plan_image.specs.declared.image.Parts.{Parts}
use Rattle.plan_image.specs.Code.{code}
use Rattle.plan_verify.specs.Turn.{Slots, Local, turn}
use Rattle.plan_machine.specs.Limits.{Limits}
use Rattle.plan_machine.specs.declared.event.Event.{Event}
use Rattle.plan_machine.specs.declared.event.Event.TheVariants.{Skip, Stop}
use Rattle.plan_machine.specs.declared.event.Mark.{Mark}
use Rattle.plan_machine.specs.declared.event.Mark.TheVariants as mark
use Rattle.plan_machine.specs.declared.event.Outcome.TheVariants.{Failed}
use Rattle.plan_machine.specs.declared.run.refused.Refused.{Refused}
use Rattle.plan_machine.specs.declared.run.refused.Refused.TheVariants as refused
use Rattle.plan_machine.specs.declared.edge.turns.Turned.{Turned}
use Rattle.plan_machine.specs.declared.edge.turns.Turned.TheVariants as turned
use Rattle.plan_machine.specs.State.{Status, Unbegun, Active, Over, State, with_status}
use Rattle.plan_machine.specs.Places.{at_take, is_free}
use Rattle.plan_machine.specs.Step.{Next, NotEnabled, ended, step}
use Rattle.plan_machine.specs.RunState.{RunState}
use Rattle.plan_machine.specs.Depfile.{depfile}
use Rattle.plan_machine.specs.Turned.{IsTurned}
use Rattle.plan_machine.specs.Working.{Works}

-- An applied event has the next state and mark of the table. A refused one changes nothing.
abbrev pub Applied : Parts → RunState → Event → Result Mark Refused → RunState → Type 0
Applied p old event (Ok told) new = (step depfile p old.limits old.now event ≡ Next new.now told) × (new.limits ≡ old.limits)
Applied p old event (Err refused.NotEnabled) new = (step depfile p old.limits old.now event ≡ NotEnabled) × (new ≡ old)
Applied p old event (Err refused.Memory) new = new ≡ old
Applied p old event (Err refused.BadTarget) new = ⊥

-- a Skip or a Stop, which takes no memory
abbrev pub is_frugal : Event → Bool
is_frugal (Skip e w) = true
is_frugal (Stop e) = true
is_frugal _ = false

-- ---- parts of it

abbrev pub is_unbegun : Status → Bool
is_unbegun Unbegun = true
is_unbegun _ = false

abbrev pub is_active : Status → Bool
is_active (Active l) = true
is_active _ = false

abbrev pub may_stop_by : Parts → ℕ → Option Status → Bool
may_stop_by p e (Some Unbegun) = true
may_stop_by p e (Some (Active l)) = at_take p e l
may_stop_by p e _ = false

abbrev pub may_step_by : Parts → Limits → State → ℕ → Option Status → Bool
may_step_by p limits s e (Some (Active l)) = not (l.asked || (at_take p e l && not (is_free p limits s e)))
may_step_by p limits s e _ = false

-- a running edge makes a turn that isn't wrong, at a place of its code
pub record CanTurn (p : Parts) (slots : Slots) (e : ℕ) (l : Local) : Type 0 where
  pub works : Works (turn p e slots l)
  pub place : l.place < length (code p e)
  pub table : length slots ≡ length p.slots

-- the status of a running edge after a turn
pub record HasStepped (p : Parts) (e : ℕ) (r : Turned) (old new : Status) (slots after : Slots) : Type 0 where
  pub before : Local
  pub later : Local
  pub was : old ≡ Active before
  pub is : new ≡ Active later
  pub made : IsTurned r before later slots after (turn p e slots before)

-- a running edge made a turn
pub record HasTurned (p : Parts) (old : RunState) (e : ℕ) (r : Turned) (new : RunState) : Type 0 where
  pub before : Local
  pub after : Local
  pub now : slice_get old.now.edges e ≡ Some (Active before)
  pub slots : Slots
  pub made : IsTurned r before after old.now.slots slots (turn p e old.now.slots before)
  pub left : new ≡ record { limits = old.limits; now = record { edges = slice_set old.now.edges e (Active after); slots = slots } }

-- the mark of a turn, and the status of the edge after it
abbrev pub Settles : RunState → ℕ → Turned → Mark → RunState → Type 0
Settles old e turned.Moved told new = (told ≡ mark.Moved e) × (new ≡ old)
Settles old e turned.Stored told new = (told ≡ mark.Moved e) × (new ≡ old)
Settles old e turned.Took told new = (told ≡ mark.Took e) × (new ≡ old)
Settles old e turned.Released told new = (told ≡ mark.Released e) × (new ≡ old)
Settles old e turned.Asked told new = (told ≡ mark.Asked e) × (new ≡ old)
Settles old e turned.Ended told new =
    (l : Local) → slice_get old.now.edges e ≡ Some (Active l) → (told ≡ mark.Ended e l.ran) × (new ≡ record { limits = old.limits; now = with_status old.now e (Over (ended l.ran)) })
Settles old e (turned.Failed cause) told new = (told ≡ mark.Failed e cause) × (new ≡ record { limits = old.limits; now = with_status old.now e (Over (Failed cause)) })
