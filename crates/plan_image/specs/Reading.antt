-- Reading an image from left to right, up to the first fault.
use Rattle.std.specs.Prelude.{◌≡◌, ℕ, zero, suc, ◌+◌, ◌-◌, Bool, true, false, List, [], ◌∷◌, length, take, drop, Option, Some, None, Result, Ok, Err, nat_lt, ◌==◌, not, if◌then◌else◌, nat_eq, slice_get}
use Rattle.std.specs.List.{starts_with}
use Rattle.std.specs.Int.{Width, w16, w32, byte_len, from_be_bytes}
use Rattle.plan_image.specs.declared.fault.Cause.{Cause}
use Rattle.plan_image.specs.declared.fault.Cause.TheVariants.{BadMagic, BadVersion, Truncated, Trailing, BadTag, Limit, BadOrder, BadBody}
use Rattle.plan_image.specs.declared.reading.stop.Stop.{Stop}
use Rattle.plan_image.specs.declared.reading.stop.ReadFault.{ReadFault}
use Rattle.plan_image.specs.declared.reading.stop.ReadFault.TheVariants as errors
use Rattle.plan_image.specs.declared.fault.ImageFault.{ImageFault}
use Rattle.plan_image.specs.declared.fault.ImageFault.TheVariants as fault
use Rattle.plan_image.specs.declared.body.Kind.{Kind}
use Rattle.plan_image.specs.declared.body.Kind.TheVariants as kind
use Rattle.plan_image.specs.declared.body.Instr.{Instr}
use Rattle.plan_image.specs.declared.body.Instr.TheVariants as op
use Rattle.plan_image.specs.declared.image.Sort.{Sort}
use Rattle.plan_image.specs.declared.image.Sort.TheVariants as sort
use Rattle.plan_image.specs.declared.image.Pool.{Pool}
use Rattle.plan_image.specs.declared.image.Slot.{Slot}
use Rattle.plan_image.specs.declared.image.Edge.{Edge}
use Rattle.plan_image.specs.declared.image.Parts.{Parts}
use Rattle.plan_image.specs.declared.image.EdgeCode.{EdgeCode}
use Rattle.plan_image.specs.declared.image.EdgeCode.TheVariants as code_form
use Rattle.plan_image.specs.declared.image.Version.{Version}
use Rattle.plan_image.specs.declared.image.Version.TheVariants as version
use Rattle.plan_image.specs.declared.body.Opening.{Opening}
use Rattle.plan_image.specs.declared.body.Opening.TheVariants as opening
use Rattle.plan_image.specs.declared.body.BodyInstr.{BodyInstr}
use Rattle.plan_image.specs.declared.body.BodyInstr.TheVariants as member
use Rattle.plan_image.specs.declared.maxima.TheConstants.{MAX_BODIES, MAX_BODY, MAX_BODY_INSTRS, MAX_DEPTH, MAX_EDGES, MAX_FILES, MAX_IMAGE, MAX_OWN_INSTRS, MAX_PATH, MAX_POOLS, MAX_SHARED_INSTRS, MAX_SLOTS, MAX_TEXT, MAX_TEXTS}
use Rattle.plan_image.specs.Bodies.{opens}
use Rattle.plan_image.specs.Faults.{fault_at}
use Rattle.plan_image.specs.Code.{instrs_of}
use Rattle.plan_image.specs.Spelling.{magic}

-- a value and the bytes after it, or the place at which reading stops
abbrev pub Read : Type 0 → Type 0
Read X = Result (X × List ℕ) Stop

abbrev pub stop : {X : Type 0} → Cause → List ℕ → Result X Stop
stop cause bytes = Err (record { cause = cause; left = length bytes })

infixl 10 ◌>>=◌
abbrev pub ◌>>=◌ : {A B : Type 0} → Result A Stop → (A → Result B Stop) → Result B Stop
(Ok x) >>= f = f x
(Err e) >>= f = Err e

-- a fault that a function returned is the one at which reading stops, unless memory ran out
abbrev pub Fails : {Y : Type 0} → ReadFault → Result Y Stop → Type 0
Fails errors.Memory read = Unit {0}
Fails (errors.Stop f) read = read ≡ Err f

-- a function's result, seen by view, is the result of reading, unless memory ran out
abbrev pub Gives : {X Y : Type 0} → (X → Y) → Result X ReadFault → Result Y Stop → Type 0
Gives view (Ok x) read = read ≡ Ok (view x)
Gives view (Err e) read = Fails e read

-- a refused length or number is reported at the start of its field
abbrev pub refuse : Bool → Cause → List ℕ → Result (Unit {0}) Stop
refuse true cause bytes = stop cause bytes
refuse false cause bytes = Ok tt

unfoldable pub number_at : Width → List ℕ → Read ℕ
number_at w bytes = if nat_lt (length bytes) (byte_len w) then stop Truncated [] else Ok (from_be_bytes w (take (byte_len w) bytes), drop (byte_len w) bytes)

-- a number of at most this value
unfoldable pub number_up_to : Width → ℕ → List ℕ → Read ℕ
number_up_to w most bytes = do
  n ← number_at w bytes
  _ ← refuse (nat_lt most n.0) Limit bytes
  Ok n

-- that many bytes
unfoldable pub bytes_at : ℕ → List ℕ → Read (List ℕ)
bytes_at n bytes = if nat_lt (length bytes) n then stop Truncated [] else Ok (take n bytes, drop n bytes)

unfoldable pub text_at : List ℕ → Read (List ℕ)
text_at bytes = do
  n ← number_up_to w32 MAX_TEXT bytes
  bytes_at n.0 n.1

unfoldable pub file_at : List ℕ → Read (List ℕ)
file_at bytes = do
  n ← number_up_to w16 MAX_PATH bytes
  _ ← refuse (n.0 == 0) Limit bytes
  bytes_at n.0 n.1

-- items one after another; reading an item may depend on those before it
unfoldable pub items_at : {S X : Type 0} → (S → List ℕ → Read X) → (S → X → S) → S → ℕ → List ℕ → Read (List X)
items_at item next s zero bytes = Ok ([], bytes)
items_at item next s (suc n) bytes = do
  x ← item s bytes
  xs ← items_at item next (next s x.0) n x.1
  Ok (x.0 ∷ xs.0, xs.1)

unfoldable pub table_at : {X : Type 0} → (List ℕ → Read X) → ℕ → List ℕ → Read (List X)
table_at item most bytes = do
  n ← number_up_to w32 most bytes
  items_at (λ (s : Unit {0}). item) (λ s x. s) tt n.0 n.1

-- a number that is at least this value
unfoldable pub next_at : ℕ → List ℕ → Read ℕ
next_at least bytes = do
  n ← number_at w32 bytes
  _ ← refuse (nat_lt n.0 least) BadOrder bytes
  Ok n

unfoldable pub ascending_at : List ℕ → Read (List ℕ)
ascending_at bytes = do
  n ← number_at w32 bytes
  items_at next_at (λ least n. n + 1) 0 n.0 n.1

-- a count and that many numbers, in any order
unfoldable pub numbers_at : List ℕ → Read (List ℕ)
numbers_at bytes = do
  n ← number_at w32 bytes
  items_at (λ (s : Unit {0}). number_at w32) (λ s x. s) tt n.0 n.1

unfoldable pub byte_at : List ℕ → Read ℕ
byte_at [] = stop Truncated []
byte_at (b ∷ rest) = Ok (b, rest)

abbrev pub kind_of : ℕ → Option Kind
kind_of b =
    if b == 1 then Some kind.Stamp
    else if b == 2 then Some kind.Flag
    else if b == 3 then Some kind.Text
    else if b == 4 then Some kind.Paths
    else if b == 5 then Some kind.Swept
    else None

abbrev pub tag : {X : Type 0} → Option X → List ℕ → List ℕ → Read X
tag (Some x) bytes rest = Ok (x, rest)
tag None bytes rest = stop BadTag bytes

unfoldable pub kind_at : List ℕ → Read Kind
kind_at bytes = do
  b ← byte_at bytes
  tag (kind_of b.0) bytes b.1

unfoldable pub slot_at : List ℕ → Read Slot
slot_at bytes = do
  owner ← number_at w32 bytes
  kind ← kind_at owner.1
  Ok (record { owner = owner.0; kind = kind.0 }, kind.1)

unfoldable pub pool_at : List ℕ → Read Pool
pool_at bytes = do
  len ← number_at w16 bytes
  name ← bytes_at len.0 len.1
  depth ← number_up_to w32 MAX_DEPTH name.1
  Ok (record { name = name.0; depth = depth.0 }, depth.1)

abbrev pub sort_of : ℕ → Option Sort
sort_of b = if b == 0 then Some sort.Command else if b == 1 then Some sort.Phony else None

abbrev pub flag_of : ℕ → Option Bool
flag_of b = if b == 0 then Some false else if b == 1 then Some true else None

-- an instruction without operand, given its opcode
abbrev pub bare_of : ℕ → Option Instr
bare_of b =
    if b == 0 then Some op.End
    else if b == 5 then Some op.Older
    else if b == 6 then Some op.Newer
    else if b == 7 then Some op.Before
    else if b == 8 then Some op.Same
    else if b == 9 then Some op.IsMissing
    else if b == 10 then Some op.Or
    else if b == 11 then Some op.Not
    else if b == 13 then Some op.Zero
    else if b == 14 then Some op.NoPaths
    else if b == 16 then Some op.Join
    else if b == 17 then Some op.Equal
    else if b == 18 then Some op.Recall
    else if b == 19 then Some op.Sweep
    else if b == 22 then Some op.Take
    else if b == 23 then Some op.Release
    else if b == 24 then Some op.Run
    else if b == 25 then Some op.Deps
    else if b == 26 then Some op.Keep
    else if b == 27 then Some op.Drop
    else if b == 28 then Some op.Swap
    else None

-- an instruction with a number after its opcode
abbrev pub numbered_of : ℕ → Option (ℕ → Instr)
numbered_of b =
    if b == 1 then Some (λ n. op.Stat n)
    else if b == 2 then Some (λ n. op.Need n)
    else if b == 3 then Some (λ n. op.Load n)
    else if b == 4 then Some (λ n. op.Store n)
    else if b == 15 then Some (λ n. op.Text n)
    else if b == 20 then Some (λ n. op.Jump n)
    else if b == 21 then Some (λ n. op.JumpIf n)
    else None

abbrev pub operand_at : Option (ℕ → Instr) → Option Instr → List ℕ → List ℕ → Read Instr
operand_at (Some make) bare bytes rest = do
  n ← number_at w32 rest
  Ok (make n.0, n.1)
operand_at None bare bytes rest = tag bare bytes rest

abbrev pub flagged_at : List ℕ → Read Instr
flagged_at rest = do
  b ← byte_at rest
  flag ← tag (flag_of b.0) rest b.1
  Ok (op.Flag flag.0, flag.1)

unfoldable pub instr_at : List ℕ → Read Instr
instr_at bytes = do
  b ← byte_at bytes
  if b.0 == 12 then flagged_at b.1 else operand_at (numbered_of b.0) (bare_of b.0) bytes b.1

unfoldable pub sort_at : List ℕ → Read Sort
sort_at bytes = do
  b ← byte_at bytes
  tag (sort_of b.0) bytes b.1

abbrev pub pool_of : ℕ → Option ℕ
pool_of zero = None
pool_of (suc n) = Some n

-- the edge's own instructions, if the edges before it have `used` instructions
unfoldable pub own_code_at : ℕ → List ℕ → Read EdgeCode
own_code_at used bytes = do
  n ← number_up_to w32 (MAX_OWN_INSTRS - used) bytes
  is ← items_at (λ (s : Unit {0}). instr_at) (λ s x. s) tt n.0 n.1
  Ok (code_form.Own is.0, is.1)

-- the numbers for the open instructions of a body, if the edges before have `used` instructions
abbrev pub numbers_for : ℕ → ℕ → ℕ → ℕ → List ℕ → List ℕ → Read EdgeCode
numbers_for used n len count bytes rest = do
  _ ← refuse (nat_lt (MAX_SHARED_INSTRS - used) len) Limit bytes
  ns ← items_at (λ (s : Unit {0}). number_at w32) (λ s x. s) tt count rest
  Ok (code_form.Shared n ns.0, ns.1)

abbrev pub filling_at : ℕ → ℕ → Option (List BodyInstr) → List ℕ → List ℕ → Read EdgeCode
filling_at used n None bytes rest = stop BadBody bytes
filling_at used n (Some b) bytes rest = numbers_for used n (length b) (opens b) bytes rest

unfoldable pub shared_code_at : List (List BodyInstr) → ℕ → List ℕ → Read EdgeCode
shared_code_at bs used bytes = do
  n ← number_at w32 bytes
  filling_at used n.0 (slice_get bs n.0) bytes n.1

-- the code of an edge, in the form of the version
abbrev pub code_at : Option (List (List BodyInstr)) → ℕ → List ℕ → Read EdgeCode
code_at None = own_code_at
code_at (Some bs) = shared_code_at bs

unfoldable pub edge_at : Option (List (List BodyInstr)) → ℕ → List ℕ → Read Edge
edge_at bodies used bytes = do
  sort ← sort_at bytes
  pool ← number_at w32 sort.1
  rank ← number_at w32 pool.1
  label ← number_at w32 rank.1
  outputs ← numbers_at label.1
  waits ← ascending_at outputs.1
  code ← code_at bodies used waits.1
  Ok (record { sort = sort.0; pool = pool_of pool.0; rank = rank.0; label = label.0; outputs = outputs.0; waits = waits.0; code = code.0 }, code.1)

-- the number of instructions of an edge and of those before it
abbrev pub used_after : Option (List (List BodyInstr)) → ℕ → Edge → ℕ
used_after bodies used x = used + length (instrs_of bodies x.code)

unfoldable pub edges_at : Option (List (List BodyInstr)) → List ℕ → Read (List Edge)
edges_at bodies bytes = do
  n ← number_up_to w32 MAX_EDGES bytes
  items_at (edge_at bodies) (used_after bodies) 0 n.0 n.1

-- the kind of an open instruction, given its opcode
abbrev pub opening_by : ℕ → Option Opening
opening_by b =
    if b == 1 then Some opening.Stat
    else if b == 2 then Some opening.Need
    else if b == 3 then Some opening.Load
    else if b == 4 then Some opening.Store
    else if b == 15 then Some opening.Text
    else None

abbrev pub fixed_at : List ℕ → Read BodyInstr
fixed_at bytes = do
  i ← instr_at bytes
  Ok (member.Fixed i.0, i.1)

abbrev pub open_at : Option Opening → List ℕ → List ℕ → Read BodyInstr
open_at (Some o) bytes rest = Ok (member.Open o, rest)
open_at None bytes rest = fixed_at bytes

unfoldable pub body_instr_at : List ℕ → Read BodyInstr
body_instr_at bytes = do
  b ← byte_at bytes
  open_at (opening_by b.0) bytes b.1

-- a body, if the bodies before it have `used` instructions
unfoldable pub body_at : ℕ → List ℕ → Read (List BodyInstr)
body_at used bytes = do
  n ← number_up_to w32 MAX_BODY bytes
  _ ← refuse (nat_lt (MAX_BODY_INSTRS - used) n.0) Limit bytes
  items_at (λ (s : Unit {0}). body_instr_at) (λ s x. s) tt n.0 n.1

unfoldable pub body_table_at : List ℕ → Read (List (List BodyInstr))
body_table_at bytes = do
  n ← number_up_to w32 MAX_BODIES bytes
  items_at body_at (λ used b. used + length b) 0 n.0 n.1

-- the table of bodies, if the version has one
unfoldable pub bodies_at : Version → List ℕ → Read (Option (List (List BodyInstr)))
bodies_at version.One bytes = Ok (None, bytes)
bodies_at version.Two bytes = do
  bs ← body_table_at bytes
  Ok (Some bs.0, bs.1)

abbrev pub version_by : ℕ → Option Version
version_by b = if b == 1 then Some version.One else if b == 2 then Some version.Two else None

abbrev pub versioned : Option Version → List ℕ → List ℕ → Read Version
versioned (Some v) bytes rest = Ok (v, rest)
versioned None bytes rest = stop BadVersion bytes

unfoldable pub version_at : List ℕ → Read Version
version_at bytes = do
  b ← byte_at bytes
  versioned (version_by b.0) bytes b.1

-- the magic and the version
unfoldable pub head_at : List ℕ → Read Version
head_at bytes =
    if starts_with nat_eq bytes magic then version_at (drop 7 bytes)
    else if starts_with nat_eq magic bytes then stop Truncated []
    else stop BadMagic bytes

-- all tables, of which those up to the slots have been read, and the bytes after them
abbrev pub later_tables_at : List (List ℕ) → List (List ℕ) → List Pool → List Slot → Version → List ℕ → Read Parts
later_tables_at texts files pools slots version bytes = do
  bodies ← bodies_at version bytes
  edges ← edges_at bodies.0 bodies.1
  defaults ← ascending_at edges.1
  Ok (record { texts = texts; files = files; pools = pools; slots = slots; bodies = bodies.0; edges = edges.0; defaults = defaults.0 }, defaults.1)

-- all tables, and the bytes after them
unfoldable pub parts_at : List ℕ → Read Parts
parts_at bytes = do
  head ← head_at bytes
  texts ← table_at text_at MAX_TEXTS head.1
  files ← table_at file_at MAX_FILES texts.1
  pools ← table_at pool_at MAX_POOLS files.1
  slots ← table_at slot_at MAX_SLOTS pools.1
  later_tables_at texts.0 files.0 pools.0 slots.0 head.0 slots.1

unfoldable pub tables_at : List ℕ → Result Parts Stop
tables_at bytes = do
  parts ← parts_at bytes
  _ ← refuse (not (length parts.1 == 0)) Trailing parts.1
  Ok parts.0

abbrev pub located : ℕ → Result Parts Stop → Result Parts ImageFault
located whole (Ok parts) = Ok parts
located whole (Err e) = Err (fault_at e.cause (whole - e.left))

-- the tables that the bytes represent, or the first fault with its offset
unfoldable pub read_of : List ℕ → Result Parts ImageFault
read_of bytes = if nat_lt MAX_IMAGE (length bytes) then Err (fault.Limit 0) else located (length bytes) (tables_at bytes)
