-- The one spelling of an image, and the condition for having one.
use Rattle.std.specs.Prelude.{◌≡◌, ◌≢◌, ℕ, ◌+◌, ◌<◌, ◌≤◌, ◌^◌, List, [], ◌∷◌, ◌++◌, length, Option, Some, None, IfSome}
use Rattle.std.specs.List.{flat_map, AllByRecursion}
use Rattle.std.specs.Int.{w16, w32, to_be_bytes}
use Rattle.plan_image.specs.declared.body.Kind.{Kind}
use Rattle.plan_image.specs.declared.body.Kind.TheVariants as kind
use Rattle.plan_image.specs.declared.body.Instr.{Instr}
use Rattle.plan_image.specs.declared.body.Instr.TheVariants as op
use Rattle.plan_image.specs.declared.image.Sort.{Sort}
use Rattle.plan_image.specs.declared.image.Sort.TheVariants as sort
use Rattle.plan_image.specs.declared.image.Pool.{Pool}
use Rattle.plan_image.specs.declared.image.Slot.{Slot}
use Rattle.plan_image.specs.declared.image.Edge.{Edge}
use Rattle.plan_image.specs.declared.image.Parts.{Parts}
use Rattle.plan_image.specs.declared.image.EdgeCode.{EdgeCode}
use Rattle.plan_image.specs.declared.image.EdgeCode.TheVariants as code_form
use Rattle.plan_image.specs.declared.image.Version.{Version}
use Rattle.plan_image.specs.declared.image.Version.TheVariants as version
use Rattle.plan_image.specs.declared.body.Opening.{Opening}
use Rattle.plan_image.specs.declared.body.BodyInstr.{BodyInstr}
use Rattle.plan_image.specs.declared.body.BodyInstr.TheVariants as member
use Rattle.plan_image.specs.declared.maxima.TheConstants.{MAX_BODIES, MAX_BODY, MAX_BODY_INSTRS, MAX_DEPTH, MAX_EDGES, MAX_FILES, MAX_IMAGE, MAX_OWN_INSTRS, MAX_PATH, MAX_POOLS, MAX_SHARED_INSTRS, MAX_SLOTS, MAX_TEXT, MAX_TEXTS}
use Rattle.plan_image.specs.Bodies.{body_of, opening_of, put}
use Rattle.plan_image.specs.Code.{instrs_of, HasBody}
use Rattle.plan_image.specs.Opcodes.{opcode, flag_byte}

-- ---- fields

abbrev pub number : ℕ → List ℕ
number n = to_be_bytes w32 n

-- a length and that many bytes
abbrev pub long_text : List ℕ → List ℕ
long_text bytes = to_be_bytes w32 (length bytes) ++ bytes

abbrev pub short_text : List ℕ → List ℕ
short_text bytes = to_be_bytes w16 (length bytes) ++ bytes

-- the number of items, and each item
abbrev pub counted : {X : Type 0} → (X → List ℕ) → List X → List ℕ
counted spell xs = number (length xs) ++ flat_map spell xs

-- ---- the parts of a table

abbrev pub kind_byte : Kind → ℕ
kind_byte kind.Stamp = 1
kind_byte kind.Flag = 2
kind_byte kind.Text = 3
kind_byte kind.Paths = 4
kind_byte kind.Swept = 5

abbrev pub sort_byte : Sort → ℕ
sort_byte sort.Command = 0
sort_byte sort.Phony = 1

-- 0 for no pool, and else the number of the pool plus 1
abbrev pub pool_number : Option ℕ → ℕ
pool_number None = 0
pool_number (Some n) = n + 1

-- the bytes of an operand
abbrev pub operand_bytes : Instr → List ℕ
operand_bytes (op.Stat f) = number f
operand_bytes (op.Need f) = number f
operand_bytes (op.Load s) = number s
operand_bytes (op.Store s) = number s
operand_bytes (op.Flag b) = flag_byte b ∷ []
operand_bytes (op.Text t) = number t
operand_bytes (op.Jump d) = number d
operand_bytes (op.JumpIf d) = number d
operand_bytes i = []

abbrev pub instr : Instr → List ℕ
instr i = opcode i ∷ operand_bytes i

abbrev pub pool : Pool → List ℕ
pool p = short_text p.name ++ number p.depth

abbrev pub slot : Slot → List ℕ
slot s = number s.owner ++ kind_byte s.kind ∷ []

-- the fields before the lists of an edge
abbrev pub edge_head : Edge → List ℕ
edge_head x = sort_byte x.sort ∷ number (pool_number x.pool) ++ number x.rank ++ number x.label

-- the edge's own instructions, or the number of a body and as many numbers as it has open instructions
abbrev pub edge_code : EdgeCode → List ℕ
edge_code (code_form.Own is) = counted instr is
edge_code (code_form.Shared n ns) = number n ++ flat_map number ns

abbrev pub edge : Edge → List ℕ
edge x =
    edge_head x ++ counted number x.outputs ++ counted number x.waits ++ edge_code x.code

-- the opcode of the instruction that is left open
abbrev pub opening_byte : Opening → ℕ
opening_byte o = opcode (put o 0)

abbrev pub body_instr : BodyInstr → List ℕ
body_instr (member.Fixed i) = instr i
body_instr (member.Open o) = opening_byte o ∷ []

abbrev pub body : List BodyInstr → List ℕ
body is = counted body_instr is

-- the table of bodies, if there is one
abbrev pub bodies : Option (List (List BodyInstr)) → List ℕ
bodies None = []
bodies (Some bs) = counted body bs

-- version 2 has a table of bodies
abbrev pub version_of : Option (List (List BodyInstr)) → Version
version_of None = version.One
version_of (Some bs) = version.Two

abbrev pub version_byte : Version → ℕ
version_byte version.One = 1
version_byte version.Two = 2

-- "PLANIMG"
abbrev pub magic : List ℕ
magic = 80 ∷ 76 ∷ 65 ∷ 78 ∷ 73 ∷ 77 ∷ 71 ∷ []

unfoldable pub spelling : Parts → List ℕ
spelling p =
    magic ++ version_byte (version_of p.bodies) ∷ counted long_text p.texts ++ counted short_text p.files ++ counted pool p.pools ++ counted slot p.slots ++ bodies p.bodies ++ counted edge p.edges ++ counted number p.defaults

-- ---- which images have it

-- each number is greater than the one before it
abbrev pub AscendsFrom : ℕ → List ℕ → Type 0
AscendsFrom least [] = Unit {0}
AscendsFrom least (n ∷ ns) = (least ≤ n) × AscendsFrom (n + 1) ns

-- a number that fits into four bytes
abbrev pub IsWord : ℕ → Type 0
IsWord n = n < 2 ^ 32

abbrev pub AreWords : List ℕ → Type 0
AreWords ns = (length ns < 2 ^ 32) × AllByRecursion IsWord ns

abbrev pub IsText : List ℕ → Type 0
IsText text = length text ≤ MAX_TEXT

abbrev pub IsFileName : List ℕ → Type 0
IsFileName name = (0 < length name) × (length name ≤ MAX_PATH)

pub record PoolFits (p : Pool) : Type 0 where
  pub name : length p.name < 2 ^ 16
  pub depth : p.depth ≤ MAX_DEPTH

abbrev pub SlotFits : Slot → Type 0
SlotFits s = IsWord s.owner

-- the number after an opcode
abbrev pub operand : Instr → Option ℕ
operand (op.Stat f) = Some f
operand (op.Need f) = Some f
operand (op.Load s) = Some s
operand (op.Store s) = Some s
operand (op.Text t) = Some t
operand (op.Jump d) = Some d
operand (op.JumpIf d) = Some d
operand i = None

abbrev pub InstrFits : Instr → Type 0
InstrFits i = IfSome (operand i) IsWord

abbrev pub CodeFits : EdgeCode → Type 0
CodeFits (code_form.Own is) = (length is < 2 ^ 32) × AllByRecursion InstrFits is
CodeFits (code_form.Shared n ns) = IsWord n × AllByRecursion IsWord ns

-- each instruction that can be open is open
abbrev pub BodyInstrFits : BodyInstr → Type 0
BodyInstrFits (member.Fixed i) = (opening_of i ≡ None) × InstrFits i
BodyInstrFits (member.Open o) = Unit {0}

abbrev pub BodyFits : List BodyInstr → Type 0
BodyFits is = (length is ≤ MAX_BODY) × AllByRecursion BodyInstrFits is

-- if the numbers of a code fit their fields, its body has a spelling
abbrev pub BodiesHaveSpelling : Type 0
BodiesHaveSpelling = (is : List Instr) → AllByRecursion InstrFits is → AllByRecursion BodyInstrFits (body_of is)

pub record EdgeFits (x : Edge) : Type 0 where
  pub pool : IsWord (pool_number x.pool)
  pub rank : IsWord x.rank
  pub label : IsWord x.label
  pub outputs : AreWords x.outputs
  pub waits : AreWords x.waits
  pub code : CodeFits x.code

-- the number of instructions of all edges
abbrev pub instructions : Option (List (List BodyInstr)) → List Edge → ℕ
instructions bs [] = 0
instructions bs (x ∷ xs) = length (instrs_of bs x.code) + instructions bs xs

-- the most instructions of all edges
abbrev pub most_code : Option (List (List BodyInstr)) → ℕ
most_code None = MAX_OWN_INSTRS
most_code (Some bs) = MAX_SHARED_INSTRS

-- the number of instructions of all bodies
abbrev pub body_instructions : List (List BodyInstr) → ℕ
body_instructions [] = 0
body_instructions (b ∷ bs) = length b + body_instructions bs

pub record BodiesFit (bs : List (List BodyInstr)) : Type 0 where
  pub count : length bs ≤ MAX_BODIES
  pub each : AllByRecursion BodyFits bs
  pub instructions : body_instructions bs ≤ MAX_BODY_INSTRS

-- no table has more items than its limit
pub record CountsFit (p : Parts) : Type 0 where
  pub texts : length p.texts ≤ MAX_TEXTS
  pub files : length p.files ≤ MAX_FILES
  pub pools : length p.pools ≤ MAX_POOLS
  pub slots : length p.slots ≤ MAX_SLOTS
  pub edges : length p.edges ≤ MAX_EDGES

-- each length and number fits its field and its limit
pub record ItemsFit (p : Parts) : Type 0 where
  pub texts : AllByRecursion IsText p.texts
  pub files : AllByRecursion IsFileName p.files
  pub pools : AllByRecursion PoolFits p.pools
  pub slots : AllByRecursion SlotFits p.slots
  pub edges : AllByRecursion EdgeFits p.edges
  pub defaults : AreWords p.defaults

-- the tables are within all limits
pub record IsWithinLimits (p : Parts) : Type 0 where
  pub counts : CountsFit p
  pub items : ItemsFit p
  pub bodies : IfSome p.bodies BodiesFit
  pub instructions : instructions p.bodies p.edges ≤ most_code p.bodies
  pub bytes : length (spelling p) ≤ MAX_IMAGE

-- waits and defaults ascend
pub record IsInOrder (p : Parts) : Type 0 where
  pub waits : AllByRecursion (λ x. AscendsFrom 0 x.waits) p.edges
  pub defaults : AscendsFrom 0 p.defaults

-- each edge's code has the form of the version and the right number of operands
abbrev pub IsFilled : Parts → Type 0
IsFilled p = AllByRecursion (λ x. HasBody p.bodies x.code) p.edges

pub record HasSpelling (p : Parts) : Type 0 where
  pub limits : IsWithinLimits p
  pub order : IsInOrder p
  pub filled : IsFilled p

-- the room that is left after len bytes, or none if they don't fit
abbrev pub RoomAfter : Option ℕ → ℕ → ℕ → Type 0
RoomAfter (Some left) len room = left + len ≡ room
RoomAfter None len room = room < len

-- the bytes are the spelling of no image
abbrev pub IsNoSpelling : List ℕ → Type 0
IsNoSpelling bytes = (p : Parts) → HasSpelling p → spelling p ≢ bytes

-- No spelling of an image is a prefix of another one.
abbrev pub IsPrefixFree : Type 0
IsPrefixFree = (p q : Parts) (rest : List ℕ) → HasSpelling p → HasSpelling q → spelling p ++ rest ≡ spelling q → (p ≡ q) × (rest ≡ [])
