-- The files that the edges of a run need, and whether they are there before it.
use Rattle.std.specs.Prelude.{◌≡◌, ◌≢◌, ◌<◌, ◌≤◌, ℕ, Bool, true, List, [], ◌∷◌, Option, Some, None, get_or, slice_get}
use Rattle.plan_scope.specs.Scopes.{Text}
use Rattle.plan_image.specs.Code.{code}
use Rattle.plan_image.specs.declared.body.Instr.{Instr}
use Rattle.plan_image.specs.declared.body.Instr.TheVariants as op
use Rattle.plan_image.specs.declared.image.Parts.{Parts}
use Rattle.plan_verify.specs.Tables.{outputs_of}
use Rattle.plan_verify.specs.Turn.{Stat}
use Rattle.plan_machine.specs.Wanted.{IsWanted}
use Rattle.plan_machine.specs.declared.event.reply.Reply.{Reply}
use Rattle.plan_machine.specs.declared.event.reply.Reply.TheVariants as reply
use Rattle.plan_lanes.specs.Journals.{Rule}
use Rattle.plan_printing.specs.declared.fault.PlanFault.{PlanFault}
use Rattle.plan_printing.specs.Faults.{no_source}
use Rattle.plan_commands.specs.declared.sources.Lack.{Lack}

-- The path of a file.
abbrev pub path_in : Parts → ℕ → Text
path_in p f = get_or p.files f []

abbrev pub first_path : Parts → List ℕ → Text
first_path p [] = []
first_path p (f ∷ fs) = path_in p f

-- The first output of an edge, which is its name.
abbrev pub name_in : Parts → ℕ → Text
name_in p e = first_path p (outputs_of p e)

-- The code of an edge needs this file: it fails if the file is missing.
abbrev pub Needs : Parts → ℕ → (file : ℕ) → Type 0
Needs p e f = (place : ℕ) × (slice_get (code p e) place ≡ Some (op.Need f))

-- No value is stored before this place.
abbrev pub IsFront : Parts → ℕ → (place : ℕ) → Type 0
IsFront p e place = (k s : ℕ) → k < place → slice_get (code p e) k ≡ Some (op.Store s) → ⊥

-- The same, and the code needs the file before it stores a value. An edge of a manifest needs its sources first.
abbrev pub NeedsFirst : Parts → ℕ → (file : ℕ) → Type 0
NeedsFirst p e f = (place : ℕ) × (slice_get (code p e) place ≡ Some (op.Need f)) × IsFront p e place

-- The world may reply this to a question for the stamp of a path.
abbrev pub MayReply : Rule → Text → Reply → Type 0
MayReply rule path r = (n : ℕ) × rule n (Stat path) r

-- The world may reply that the file at this path is missing.
abbrev pub MayLack : Rule → Text → Type 0
MayLack rule path = MayReply rule path (reply.Stamp 0)

-- The world may reply something else.
abbrev pub MayHave : Rule → Text → Type 0
MayHave rule path = (r : Reply) × MayReply rule path r × (r ≢ reply.Stamp 0)

-- Each file that an edge needs first may be there.
abbrev pub HasNeeded : Rule → Parts → ℕ → Type 0
HasNeeded rule p e = (f : ℕ) → NeedsFirst p e f → MayHave rule (path_in p f)

-- An edge needs a file that may be missing.
abbrev pub LacksNeeded : Rule → Parts → (e f : ℕ) → Type 0
LacksNeeded rule p e f = Needs p e f × MayLack rule (path_in p f)

-- Each file that a wanted edge needs first may be there.
abbrev pub HasSources : Rule → Parts → (targets : List ℕ) → Type 0
HasSources rule p targets = (e : ℕ) → IsWanted p targets e → HasNeeded rule p e

-- A wanted edge needs a file that may be missing. The fault names both, and has this number.
pub record LacksSource (rule : Rule) (p : Parts) (targets : List ℕ) (number : ℕ) (fault : PlanFault) : Type 0 where
  pub edge : ℕ
  pub wanted : IsWanted p targets edge
  pub file : ℕ
  pub lacks : LacksNeeded rule p edge file
  pub says : fault ≡ no_source number (path_in p file) (name_in p edge)

-- ---- parts of the search

-- Each file that a marked edge needs first may be there, for the edges from one number up to another one.
abbrev pub HaveBetween : Rule → Parts → (wanted : List Bool) → (from to : ℕ) → Type 0
HaveBetween rule p wanted from to = (e : ℕ) → from ≤ e → e < to → slice_get wanted e ≡ Some true → HasNeeded rule p e

-- A marked edge needs a file that may be missing.
abbrev pub IsLack : Rule → Parts → (wanted : List Bool) → Lack → Type 0
IsLack rule p wanted lack = (slice_get wanted lack.edge ≡ Some true) × LacksNeeded rule p lack.edge lack.file

-- What a search among the edges from one number up to another one may find.
abbrev pub Finds : Rule → Parts → (wanted : List Bool) → (from to : ℕ) → Option Lack → Type 0
Finds rule p wanted from to (Some lack) = IsLack rule p wanted lack
Finds rule p wanted from to None = HaveBetween rule p wanted from to

-- What a search at an edge may find.
abbrev pub FindsAt : Rule → Parts → (wanted : List Bool) → (e : ℕ) → Option Lack → Type 0
FindsAt rule p wanted e (Some lack) = IsLack rule p wanted lack
FindsAt rule p wanted e None = slice_get wanted e ≡ Some true → HasNeeded rule p e

-- What a search in the code of an edge may find.
abbrev pub FindsFile : Rule → Parts → (e : ℕ) → Option ℕ → Type 0
FindsFile rule p e (Some f) = LacksNeeded rule p e f
FindsFile rule p e None = HasNeeded rule p e

-- What a search at an instruction may find, or where there is none.
abbrev pub FindsBy : Rule → Parts → Option Instr → Option ℕ → Type 0
FindsBy rule p i (Some f) = (i ≡ Some (op.Need f)) × MayLack rule (path_in p f)
FindsBy rule p i None = (f : ℕ) → i ≡ Some (op.Need f) → MayHave rule (path_in p f)
