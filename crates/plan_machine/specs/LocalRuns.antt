-- Local runs: steps that an edge makes by itself, one after another.
use Rattle.std.specs.Prelude.{◌≡◌, ◌==◌, ℕ, zero, suc, Bool, true, false, not, ◌&&◌, List, [], ◌∷◌, ◌++◌, Some, slice_get, slice_set}
use Rattle.plan_image.specs.declared.body.Instr.{Instr}
use Rattle.plan_image.specs.declared.body.Instr.TheVariants as op
use Rattle.plan_image.specs.declared.image.Parts.{Parts}
use Rattle.plan_verify.specs.Turn.{Slots, Local, turn}
use Rattle.plan_machine.specs.declared.event.Event.{Event}
use Rattle.plan_machine.specs.declared.event.Event.TheVariants.{Step}
use Rattle.plan_machine.specs.declared.event.Mark.{Mark}
use Rattle.plan_machine.specs.declared.event.Mark.TheVariants as mark
use Rattle.plan_machine.specs.declared.run.local_runs.LocalRun.{LocalRun}
use Rattle.plan_machine.specs.declared.edge.turns.Turned.{Turned}
use Rattle.plan_machine.specs.declared.edge.turns.Turned.TheVariants as turned
use Rattle.plan_machine.specs.Applying.{CanTurn}
use Rattle.plan_machine.specs.State.{Status, Active}
use Rattle.plan_machine.specs.RunState.{RunState}
use Rattle.plan_machine.specs.Places.{at_take}
use Rattle.plan_machine.specs.Turned.{IsTurned}

-- ---- the events and the marks of a local run

-- this number of steps of an edge
abbrev pub steps_of : ℕ → ℕ → List Event
steps_of e zero = []
steps_of e (suc n) = steps_of e n ++ Step e ∷ []

-- the marks of steps that asked nothing
abbrev pub moves_of : ℕ → ℕ → List Mark
moves_of e zero = []
moves_of e (suc n) = moves_of e n ++ mark.Moved e ∷ []

abbrev pub events_by : ℕ → ℕ → Bool → List Event
events_by e n true = steps_of e (suc n)
events_by e n false = steps_of e n

abbrev pub marks_by : ℕ → ℕ → Bool → List Mark
marks_by e n true = moves_of e n ++ mark.Asked e ∷ []
marks_by e n false = moves_of e n

-- the steps of a local run: those that asked nothing, and one more if it asked
abbrev pub local_run_events : ℕ → LocalRun → List Event
local_run_events e r = events_by e r.steps r.asked

abbrev pub local_run_marks : ℕ → LocalRun → List Mark
local_run_marks e r = marks_by e r.steps r.asked

-- ---- one step of it

-- An instruction that depends on no other edge, takes and releases no job token, can't fail, and doesn't run a
-- command.
abbrev pub is_local_step : Instr → Bool
is_local_step op.End = false
is_local_step op.Join = false
is_local_step op.Take = false
is_local_step op.Release = false
is_local_step op.Run = false
is_local_step _ = true

-- the effect of such an instruction
abbrev pub IsLocalStep : Turned → Type 0
IsLocalStep turned.Moved = Unit {0}
IsLocalStep turned.Stored = Unit {0}
IsLocalStep turned.Asked = Unit {0}
IsLocalStep _ = ⊥

abbrev pub asks_by : Turned → Bool
asks_by turned.Asked = true
asks_by _ = false

-- the mark of such a step, which asked or didn't
abbrev pub local_step_mark : ℕ → Bool → Mark
local_step_mark e true = mark.Asked e
local_step_mark e false = mark.Moved e

-- an edge that awaited no reply and wasn't at Take made such a step
pub record HasMadeLocalStep (p : Parts) (e : ℕ) (r : Turned) (old new : Local) (slots after : Slots) : Type 0 where
  pub local_step : IsLocalStep r
  pub silent : old.asked ≡ false
  pub elsewhere : at_take p e old ≡ false
  pub made : IsTurned r old new slots after (turn p e slots old)

-- the machine with this edge
pub record HasRunLocally (p : Parts) (old : RunState) (e : ℕ) (r : Turned) (new : RunState) : Type 0 where
  pub before : Local
  pub after : Local
  pub now : slice_get old.now.edges e ≡ Some (Active before)
  pub slots : Slots
  pub stepped_locally : HasMadeLocalStep p e r before after old.now.slots slots
  pub left : new ≡ record { limits = old.limits; now = record { edges = slice_set old.now.edges e (Active after); slots = slots } }

-- ---- a whole local run

-- an edge made n such steps, one after another, none of which asked
abbrev pub StepsLocallyTo : Parts → ℕ → ℕ → Local → Slots → Local → Slots → Type 0
StepsLocallyTo p e zero old slots new after = (new ≡ old) × (after ≡ slots)
StepsLocallyTo p e (suc n) old slots new after =
    (mid : Local) × (between : Slots) × (r : Turned) × StepsLocallyTo p e n old slots mid between × HasMadeLocalStep p e r mid new between after × (asks_by r ≡ false)

-- the same, with one more step if it asked
abbrev pub StepsLocallyBy : Parts → ℕ → ℕ → Bool → Local → Slots → Local → Slots → Type 0
StepsLocallyBy p e n false old slots new after = StepsLocallyTo p e n old slots new after
StepsLocallyBy p e n true old slots new after =
    (mid : Local) × (between : Slots) × (r : Turned) × StepsLocallyTo p e n old slots mid between × HasMadeLocalStep p e r mid new between after × (asks_by r ≡ true)

-- after any number of such steps, the edge makes a turn that isn't wrong
pub record CanStepLocally (p : Parts) (e : ℕ) (old : Local) (slots : Slots) : Type 0 where
  pub turns : (n : ℕ) (l : Local) (after : Slots) → StepsLocallyTo p e n old slots l after → CanTurn p after e l

-- the status of a running edge after a local run
pub record StandsOtherwise (p : Parts) (e : ℕ) (r : LocalRun) (old new : Status) (slots after : Slots) : Type 0 where
  pub before : Local
  pub later : Local
  pub was : old ≡ Active before
  pub is : new ≡ Active later
  pub stepped_locally : StepsLocallyBy p e r.steps r.asked before slots later after

-- the machine with this edge
pub record HasRunLocallyOn (p : Parts) (old : RunState) (e : ℕ) (r : LocalRun) (new : RunState) : Type 0 where
  pub before : Local
  pub after : Local
  pub now : slice_get old.now.edges e ≡ Some (Active before)
  pub slots : Slots
  pub stepped_locally : StepsLocallyBy p e r.steps r.asked before old.now.slots after slots
  pub left : new ≡ record { limits = old.limits; now = record { edges = slice_set old.now.edges e (Active after); slots = slots } }

-- no step was made
abbrev pub is_still : LocalRun → Bool
is_still r = (r.steps == 0) && not r.asked
