-- One edge, with any values in any slot: its next turn, and how the turn can be wrong.
use Rattle.std.specs.Prelude.{ℕ, zero, suc, ◌+◌, Bool, true, false, not, ◌||◌, ◌&&◌, Result, Ok, Err, List, [], ◌∷◌, ◌++◌, length, drop, Option, Some, None, nat_lt, nat_le, ◌==◌, if◌then◌else◌, slice_get}
use Rattle.std.specs.List.{list_all}
use Rattle.plan_image.specs.declared.body.Kind.{Kind}
use Rattle.plan_image.specs.declared.body.Kind.TheVariants as kind
use Rattle.plan_image.specs.declared.body.Instr.{Instr}
use Rattle.plan_image.specs.declared.body.Instr.TheVariants as op
use Rattle.plan_image.specs.declared.image.Slot.{Slot}
use Rattle.plan_image.specs.declared.image.Parts.{Parts}
use Rattle.plan_image.specs.Code.{code}
use Rattle.plan_verify.specs.declared.kinds.TheConstants.{MAX_STACK}
use Rattle.plan_image.specs.declared.maxima.TheConstants.{MAX_TEXT}
use Rattle.plan_verify.specs.declared.value.Value.{Value}
use Rattle.plan_verify.specs.declared.value.Value.TheVariants.{Stamp, Flag, Text, Paths, Swept}
use Rattle.plan_verify.specs.declared.value.Cause.{Cause}
use Rattle.plan_verify.specs.declared.value.Cause.TheVariants.{MissingInput, StatFault, DepfileFault, DepfileMalformed, RecordFault, TextTooLong}
use Rattle.plan_verify.specs.declared.value.Cause.TheVariants as cause
use Rattle.plan_verify.specs.Tables.{outputs_of, path_of, paths_of, first_output, pool_outside, own_slots}

-- ---- values, questions, replies

abbrev pub kind_of : Value → Kind
kind_of (Stamp n) = kind.Stamp
kind_of (Flag b) = kind.Flag
kind_of (Text t) = kind.Text
kind_of (Paths swept all) = kind.Paths
kind_of (Swept all) = kind.Swept

-- the value of each slot of the table, or None if it isn't set
abbrev pub Slots : Type 0
Slots = List (Option Value)

abbrev pub is_filled : Option (Option Value) → Bool
is_filled (Some (Some v)) = true
is_filled _ = false

abbrev pub is_set : Slots → ℕ → Bool
is_set slots s = is_filled (slice_get slots s)

pub data Request : Type 0 where
  Stat : (path : List ℕ) → Request
  Recall : (output : List ℕ) → Request
  Run : (command : List ℕ) (outputs : List (List ℕ)) → Request
  Deps : (path : List ℕ) → Request
  Keep : (output command : List ℕ) (basis : ℕ) (paths : List (List ℕ)) → Request

pub data Reply : Type 0 where
  StampIs : ℕ → Reply
  Entry : (command : List ℕ) (basis : ℕ) (paths : List (List ℕ)) → Reply
  Nothing : Reply
  Exit : ℕ → Reply
  Signal : Reply
  NotStarted : Reply
  Bytes : List ℕ → Reply
  Kept : Reply
  Fault : Reply

-- the meaning of a depfile's bytes: the paths, or the number and offset of a fault
abbrev pub Meaning : Type 0
Meaning = List ℕ → Result (List (List ℕ)) (ℕ × ℕ)

-- ---- an edge that has begun and not ended

-- the top of the stack comes first
pub record Local : Type 0 where
  pub place : ℕ
  pub stack : List Value
  pub holding : Bool
  pub ran : Bool
  pub asked : Bool

abbrev pub begun : Local
begun = record { place = 0; stack = []; holding = false; ran = false; asked = false }

-- the ways in which a turn can be wrong
pub data Flaw : Type 0 where
  TooFew : Flaw
  OtherKind : Flaw
  TooDeep : Flaw
  SlotOutside : Flaw
  SlotUnset : Flaw
  SlotForeign : Flaw
  FileOutside : Flaw
  TextOutside : Flaw
  PoolOutside : Flaw
  PlaceOutside : Flaw
  JumpBack : Flaw
  PlaceNotHeld : Flaw
  PlaceHeld : Flaw
  ValuesLeft : Flaw
  SlotsLeft : Flaw

pub data Did : Type 0 where
  Moved : Did
  Took : Did
  Released : Did

-- the effect of one step or one reply on an edge
pub data Turn : Type 0 where
  Goes : Did → Local → Turn
  Sets : (slot : ℕ) (value : Value) → Local → Turn
  Asks : Request → Turn
  Ends : Turn
  Fails : Cause → Turn
  Wrong : Flaw → Turn

-- ---- calculations: instructions that read and change only the stack

pub data Calculated : Type 0 where
  On : (stack : List Value) → Calculated
  TooLong : Calculated
  Off : Flaw → Calculated

-- the flaw if an instruction that takes n values doesn't find them on this stack
abbrev pub lacks : ℕ → List Value → Flaw
lacks n stack = if nat_lt (length stack) n then TooFew else OtherKind

abbrev pub earlier : ℕ → ℕ → ℕ
earlier a b = if nat_le a b then a else b

abbrev pub later : ℕ → ℕ → ℕ
later a b = if nat_le a b then b else a

abbrev pub same_text : List ℕ → List ℕ → Bool
same_text [] [] = true
same_text (a ∷ as') (b ∷ bs) = (a == b) && same_text as' bs
same_text _ _ = false

-- the first text and then the second, if the result isn't too long for a text
abbrev pub joined : List ℕ → List ℕ → List Value → Calculated
joined a b below = if nat_lt MAX_TEXT (length a + length b) then TooLong else On (Text (a ++ b) ∷ below)

-- an instruction that calculates nothing leaves the stack unchanged
abbrev pub calculate : Instr → List Value → Calculated
calculate op.Older (Stamp b ∷ Stamp a ∷ below) = On (Stamp (earlier a b) ∷ below)
calculate op.Older stack = Off (lacks 2 stack)
calculate op.Newer (Stamp b ∷ Stamp a ∷ below) = On (Stamp (later a b) ∷ below)
calculate op.Newer stack = Off (lacks 2 stack)
calculate op.Before (Stamp b ∷ Stamp a ∷ below) = On (Flag (nat_lt a b) ∷ below)
calculate op.Before stack = Off (lacks 2 stack)
calculate op.Same (Stamp b ∷ Stamp a ∷ below) = On (Flag (a == b) ∷ below)
calculate op.Same stack = Off (lacks 2 stack)
calculate op.IsMissing (Stamp a ∷ below) = On (Flag (a == 0) ∷ below)
calculate op.IsMissing stack = Off (lacks 1 stack)
calculate op.Or (Flag b ∷ Flag a ∷ below) = On (Flag (a || b) ∷ below)
calculate op.Or stack = Off (lacks 2 stack)
calculate op.Not (Flag a ∷ below) = On (Flag (not a) ∷ below)
calculate op.Not stack = Off (lacks 1 stack)
calculate (op.Flag b) stack = On (Flag b ∷ stack)
calculate op.Zero stack = On (Stamp 0 ∷ stack)
calculate op.NoPaths stack = On (Swept [] ∷ stack)
calculate op.Join (Text b ∷ Text a ∷ below) = joined a b below
calculate op.Join stack = Off (lacks 2 stack)
calculate op.Equal (Text b ∷ Text a ∷ below) = On (Flag (same_text a b) ∷ below)
calculate op.Equal stack = Off (lacks 2 stack)
calculate op.Drop (v ∷ below) = On below
calculate op.Drop stack = Off TooFew
calculate op.Swap (y ∷ x ∷ below) = On (x ∷ y ∷ below)
calculate op.Swap stack = Off TooFew
calculate i stack = On stack

-- ---- going on

-- continues at a place, with this stack
abbrev pub goes : Local → ℕ → List Value → Turn
goes l to stack =
    if nat_lt MAX_STACK (length stack) then Wrong TooDeep
    else Goes Moved (record { place = to; stack = stack; holding = l.holding; ran = l.ran; asked = false })

-- continues at the next place
abbrev pub next : Local → List Value → Turn
next l stack = goes l (l.place + 1) stack

-- continues at the next place, with or without a job token
abbrev pub holds : Did → Local → Bool → Turn
holds did l held = Goes did (record { place = l.place + 1; stack = l.stack; holding = held; ran = l.ran; asked = false })

-- continues forwards, inside code of this length
abbrev pub jumps : Local → ℕ → ℕ → List Value → Turn
jumps l len to stack =
    if nat_le to l.place then Wrong JumpBack else if nat_le len to then Wrong PlaceOutside else goes l to stack

abbrev pub calculated : Local → Calculated → Turn
calculated l (On stack) = next l stack
calculated l TooLong = Fails TextTooLong
calculated l (Off flaw) = Wrong flaw

abbrev pub asks_of : Option (List ℕ) → (List ℕ → Request) → Turn
asks_of (Some path) request = Asks (request path)
asks_of None request = Wrong FileOutside

-- ---- instructions that read the tables or the slots

abbrev pub ends : Parts → ℕ → Slots → Local → Turn
ends p e slots l =
    if l.holding then Wrong PlaceHeld
    else if not (list_all (is_set slots) (own_slots p e)) then Wrong SlotsLeft
    else if nat_lt 0 (length l.stack) then Wrong ValuesLeft
    else Ends

abbrev pub loads : Local → Option (Option Value) → Turn
loads l (Some (Some v)) = next l (v ∷ l.stack)
loads l (Some None) = Wrong SlotUnset
loads l None = Wrong SlotOutside

-- any value may be stored in an own slot
abbrev pub stores : Local → ℕ → ℕ → Option Slot → List Value → Turn
stores l e s None stack = Wrong SlotOutside
stores l e s (Some slot) [] = Wrong TooFew
stores l e s (Some slot) (v ∷ below) =
    if slot.owner == e then Sets s v (record { place = l.place + 1; stack = below; holding = l.holding; ran = l.ran; asked = false })
    else Wrong SlotForeign

abbrev pub writes : Local → Option (List ℕ) → Turn
writes l (Some t) = next l (Text t ∷ l.stack)
writes l None = Wrong TextOutside

-- asks for the first path that is not yet swept; if none is left, the paths are swept
abbrev pub sweeps : Local → List (List ℕ) → List Value → Option (List ℕ) → Turn
sweeps l all below (Some path) = Asks (Stat path)
sweeps l all below None = next l (Swept all ∷ below)

abbrev pub sweep : Local → List Value → Turn
sweep l (Paths swept all ∷ Flag b ∷ Stamp n ∷ below) = sweeps l all (Flag b ∷ Stamp n ∷ below) (slice_get all swept)
sweep l stack = Wrong (lacks 3 stack)

abbrev pub branches : Local → ℕ → ℕ → List Value → Turn
branches l len to (Flag b ∷ below) = if b then jumps l len to below else next l below
branches l len to stack = Wrong (lacks 1 stack)

abbrev pub runs : Option (List (List ℕ)) → List Value → Turn
runs (Some outputs) (Text command ∷ below) = Asks (Run command outputs)
runs (Some outputs) stack = Wrong (lacks 1 stack)
runs None stack = Wrong FileOutside

abbrev pub reads : List Value → Turn
reads (Text path ∷ below) = Asks (Deps path)
reads stack = Wrong (lacks 1 stack)

abbrev pub keeps : Option (List ℕ) → List Value → Turn
keeps (Some output) (Swept paths ∷ Stamp basis ∷ Text command ∷ below) = Asks (Keep output command basis paths)
keeps (Some output) stack = Wrong (lacks 3 stack)
keeps None stack = Wrong FileOutside

-- The effect of one instruction. A question leaves its operands on the stack. The reply has the whole effect.
abbrev pub act : Parts → ℕ → Slots → Local → Instr → Turn
act p e slots l op.End = ends p e slots l
act p e slots l (op.Stat f) = asks_of (path_of p f) Stat
act p e slots l (op.Need f) = asks_of (path_of p f) Stat
act p e slots l (op.Load s) = loads l (slice_get slots s)
act p e slots l (op.Store s) = stores l e s (slice_get p.slots s) l.stack
act p e slots l (op.Text t) = writes l (slice_get p.texts t)
act p e slots l op.Recall = asks_of (first_output p e) Recall
act p e slots l op.Sweep = sweep l l.stack
act p e slots l (op.Jump d) = jumps l (length (code p e)) d l.stack
act p e slots l (op.JumpIf d) = branches l (length (code p e)) d l.stack
act p e slots l op.Take = if l.holding then Wrong PlaceHeld else if pool_outside p e then Wrong PoolOutside else holds Took l true
act p e slots l op.Release = if l.holding then holds Released l false else Wrong PlaceNotHeld
act p e slots l op.Run = if l.holding then runs (paths_of p (outputs_of p e)) l.stack else Wrong PlaceNotHeld
act p e slots l op.Deps = reads l.stack
act p e slots l op.Keep = keeps (first_output p e) l.stack
act p e slots l i = calculated l (calculate i l.stack)

abbrev pub act_at : Parts → ℕ → Slots → Local → Option Instr → Turn
act_at p e slots l (Some i) = act p e slots l i
act_at p e slots l None = Wrong PlaceOutside

-- The effect of a step on an edge. Whether a Take is admitted is decided elsewhere.
unfoldable pub turn : Parts → ℕ → Slots → Local → Turn
turn p e slots l = act_at p e slots l (slice_get (code p e) l.place)

abbrev pub request_of : Turn → Option Request
request_of (Asks q) = Some q
request_of _ = None

-- the question that an edge asks in a step, and that is pending after it
abbrev pub question : Parts → ℕ → Slots → Local → Option Request
question p e slots l = request_of (turn p e slots l)

-- ---- replies

-- merges the stamp of a swept path
abbrev pub merged : ℕ → List Value → List Value
merged stamp (Paths swept all ∷ Flag b ∷ Stamp n ∷ below) = Paths (swept + 1) all ∷ Flag (b || (stamp == 0)) ∷ Stamp (later n stamp) ∷ below
merged stamp stack = stack

abbrev pub found : Local → Result (List (List ℕ)) (ℕ × ℕ) → Turn
found l (Ok paths) = next l (Paths 0 paths ∷ drop 1 l.stack)
found l (Err fault) = Fails (DepfileMalformed fault.0 fault.1)

abbrev pub ran : Local → Local
ran l = record { place = l.place; stack = l.stack; holding = l.holding; ran = true; asked = l.asked }

-- the effect of a reply at an instruction, or None if it doesn't match the question
abbrev pub replied : Meaning → Local → Instr → Reply → Option Turn
replied meaning l (op.Stat f) (StampIs n) = Some (next l (Stamp n ∷ l.stack))
replied meaning l (op.Stat f) Fault = Some (Fails StatFault)
replied meaning l (op.Need f) (StampIs zero) = Some (Fails (MissingInput f))
replied meaning l (op.Need f) (StampIs (suc n)) = Some (next l (Stamp (suc n) ∷ l.stack))
replied meaning l (op.Need f) Fault = Some (Fails StatFault)
replied meaning l op.Recall (Entry command basis paths) = Some (next l (Flag true ∷ Text command ∷ Stamp basis ∷ Paths 0 paths ∷ l.stack))
replied meaning l op.Recall Nothing = Some (next l (Flag false ∷ Text [] ∷ Stamp 0 ∷ Paths 0 [] ∷ l.stack))
replied meaning l op.Recall Fault = Some (Fails RecordFault)
replied meaning l op.Sweep (StampIs n) = Some (goes l l.place (merged n l.stack))
replied meaning l op.Sweep Fault = Some (Fails StatFault)
replied meaning l op.Run (Exit zero) = Some (next (ran l) (drop 1 l.stack))
replied meaning l op.Run (Exit (suc n)) = Some (Fails (cause.Exit (suc n)))
replied meaning l op.Run Signal = Some (Fails cause.Signal)
replied meaning l op.Run NotStarted = Some (Fails cause.NotStarted)
replied meaning l op.Deps (Bytes bytes) = Some (found l (meaning bytes))
replied meaning l op.Deps Nothing = Some (next l (Paths 0 [] ∷ drop 1 l.stack))
replied meaning l op.Deps Fault = Some (Fails DepfileFault)
replied meaning l op.Keep Kept = Some (next l (drop 3 l.stack))
replied meaning l op.Keep Fault = Some (Fails RecordFault)
replied meaning l i r = None

abbrev pub replied_at : Meaning → Local → Option Instr → Reply → Option Turn
replied_at meaning l (Some i) r = replied meaning l i r
replied_at meaning l None r = None

-- The effect of a reply on an edge that has asked. It is None if the edge has asked nothing or the reply
-- doesn't match.
unfoldable pub heard : Meaning → Parts → ℕ → Local → Reply → Option Turn
heard meaning p e l r = if l.asked then replied_at meaning l (slice_get (code p e) l.place) r else None
