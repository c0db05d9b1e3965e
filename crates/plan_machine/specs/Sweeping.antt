-- A sweep that goes on: stamps of its paths are received, and after each the next path is asked for at once.
use Rattle.std.specs.Prelude.{◌≡◌, ℕ, ◌+◌, ◌<◌, ◌≤◌, true, [], List, ◌∷◌, ◌++◌, length, Some, slice_get}
use Rattle.plan_image.specs.declared.body.Instr.TheVariants as op
use Rattle.plan_image.specs.declared.image.Parts.{Parts}
use Rattle.plan_image.specs.Code.{code}
use Rattle.plan_verify.specs.declared.value.Value.{Value}
use Rattle.plan_verify.specs.declared.value.Value.TheVariants.{Stamp, Flag, Paths}
use Rattle.plan_verify.specs.Turn.{Slots, Local, Moved, Goes, Stat, StampIs, heard, merged}
use Rattle.plan_machine.specs.declared.event.Event.{Event}
use Rattle.plan_machine.specs.declared.event.Event.TheVariants.{Step, Reply as Hear}
use Rattle.plan_machine.specs.declared.event.reply.Reply.TheVariants as reply
use Rattle.plan_machine.specs.declared.event.Mark.{Mark}
use Rattle.plan_machine.specs.declared.event.Mark.TheVariants as mark
use Rattle.plan_machine.specs.declared.edge.turns.Turned.TheVariants as turned
use Rattle.plan_machine.specs.Depfile.{depfile}
use Rattle.plan_machine.specs.RunState.{RunState}
use Rattle.plan_machine.specs.Replaying.{RunsTo}
use Rattle.plan_machine.specs.Requests.{asked_at}
use Rattle.plan_machine.specs.LocalRuns.{HasMadeLocalStep}
use Rattle.plan_machine.specs.State.{Status, Active, State, with_status}
use Rattle.plan_machine.specs.Working.{IsSweeping}

-- its events, and their marks
abbrev pub sweep_events : ℕ → ℕ → List Event
sweep_events e stamp = Hear e (reply.Stamp stamp) ∷ Step e ∷ []

abbrev pub sweep_marks : ℕ → List Mark
sweep_marks e = mark.Answered e ∷ mark.Asked e ∷ []

-- paths are being swept, this is the next one, and another is left
abbrev pub HasNext : List ℕ → List Value → Type 0
HasNext path (Paths swept all ∷ Flag b ∷ Stamp n ∷ below) = (slice_get all swept ≡ Some path) × (swept + 1 < length all)
HasNext path stack = ⊥

-- paths are being swept, and this is the next one
abbrev pub IsNext : List ℕ → List Value → Type 0
IsNext path (Paths swept all ∷ Flag b ∷ Stamp n ∷ below) = slice_get all swept ≡ Some path
IsNext path stack = ⊥

-- an edge awaits the stamp of a path of a sweep
pub record AwaitsSwept (p : Parts) (e : ℕ) (l : Local) : Type 0 where
  pub asked : l.asked ≡ true
  pub at : Some op.Sweep ≡ slice_get (code p e) l.place
  pub left : IsSweeping l.stack

abbrev pub IsSweptAt : Parts → State → ℕ → Type 0
IsSweptAt p s e = (l : Local) × (slice_get s.edges e ≡ Some (Active l)) × AwaitsSwept p e l

-- an edge awaits the stamp of this path of a sweep, and another path is left
pub record Sweeps (p : Parts) (e : ℕ) (path : List ℕ) (l : Local) : Type 0 where
  pub asked : l.asked ≡ true
  pub at : Some op.Sweep ≡ slice_get (code p e) l.place
  pub next : HasNext path l.stack

-- it received this stamp, and asked again
pub record HasSwept (p : Parts) (e : ℕ) (path : List ℕ) (stamp : ℕ) (old new : Local) : Type 0 where
  pub sweeps : Sweeps p e path old
  pub between : Local
  pub hears : heard depfile p e old (StampIs stamp) ≡ Some (Goes Moved between)
  pub stepped_locally : (slots : Slots) → HasMadeLocalStep p e turned.Asked between new slots slots
  pub later : AwaitsSwept p e new

-- the machine with this edge
pub record SweepsOn (p : Parts) (old : RunState) (e : ℕ) (path : List ℕ) (stamp : ℕ) (new : RunState) : Type 0 where
  pub before : Local
  pub after : Local
  pub now : slice_get old.now.edges e ≡ Some (Active before)
  pub swept : HasSwept p e path stamp before after
  pub left : new ≡ record { limits = old.limits; now = with_status old.now e (Active after) }

-- ---- a row: the stamps of some of its paths, one after another

-- the events of a row of stamps, and their marks
abbrev pub row_events : ℕ → List ℕ → List Event
row_events e [] = []
row_events e (stamp ∷ stamps) = sweep_events e stamp ++ row_events e stamps

abbrev pub row_marks : ℕ → List ℕ → List Mark
row_marks e [] = []
row_marks e (stamp ∷ stamps) = sweep_marks e ++ row_marks e stamps

-- an edge sweeps these paths: n of them have a stamp, and it awaits that of the next
abbrev pub HasSweptTo : Parts → State → ℕ → List (List ℕ) → ℕ → Type 0
HasSweptTo p s e paths n = (l : Local) × (slice_get s.edges e ≡ Some (Active l)) × AwaitsSwept p e l × (slice_get l.stack 0 ≡ Some (Paths n paths))

abbrev pub StandsSweptTo : Parts → ℕ → Status → List (List ℕ) → ℕ → Type 0
StandsSweptTo p e status paths n = (l : Local) × (status ≡ Active l) × AwaitsSwept p e l × (slice_get l.stack 0 ≡ Some (Paths n paths))

-- An edge asked for these paths in turn, and received a stamp for each. After each stamp it asked again.
abbrev pub IsSweptRow : Parts → RunState → ℕ → List (List ℕ) → List ℕ → RunState → Type 0
IsSweptRow p old e paths [] new = new ≡ old
IsSweptRow p old e [] (stamp ∷ stamps) new = ⊥
IsSweptRow p old e (path ∷ paths) (stamp ∷ stamps) new =
    (between : RunState) × (asked_at p old.now e ≡ Some (Stat path)) × RunsTo p old (sweep_events e stamp) (sweep_marks e) between
    × IsSweptAt p between.now e × IsSweptRow p between e paths stamps new

-- the same for a stack: each stamp is merged, except that of the last path
abbrev pub IsMergedRow : List (List ℕ) → List ℕ → List Value → List Value → Type 0
IsMergedRow paths [] old new = new ≡ old
IsMergedRow [] (stamp ∷ stamps) old new = ⊥
IsMergedRow (path ∷ paths) (stamp ∷ stamps) old new = HasNext path old × IsMergedRow paths stamps (merged stamp old) new

-- the same for an edge, whose stack has at most 64 values
pub record HasMergedRow (paths : List (List ℕ)) (stamps : List ℕ) (old new : Local) : Type 0 where
  pub few : length old.stack ≤ 64
  pub merged : IsMergedRow paths stamps old.stack new.stack
  pub left : new ≡ record { place = old.place; stack = new.stack; holding = old.holding; ran = old.ran; asked = old.asked }

-- the same for the machine
pub record SweepsRow (p : Parts) (old : RunState) (e : ℕ) (paths : List (List ℕ)) (stamps : List ℕ) (new : RunState) : Type 0 where
  pub before : Local
  pub after : Local
  pub now : slice_get old.now.edges e ≡ Some (Active before)
  pub awaits : AwaitsSwept p e before
  pub row : HasMergedRow paths stamps before after
  pub left : new ≡ record { limits = old.limits; now = with_status old.now e (Active after) }
