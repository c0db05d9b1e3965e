-- An image as text, one line for each item, in the order of the image.
use Rattle.std.specs.Prelude.{ℕ, ◌+◌, ◌/◌, ◌%◌, false, List, [], ◌∷◌, ◌++◌, map, Option, Some, None}
use Rattle.std.specs.List.{concat, join_with_byte}
use Rattle.std.specs.Fmt.{decimal, digit_glyph}
use Rattle.std.specs.Prelude.{codes}
use Rattle.plan_image.specs.declared.body.Kind.{Kind}
use Rattle.plan_image.specs.declared.body.Kind.TheVariants as kind
use Rattle.plan_image.specs.declared.body.Instr.{Instr}
use Rattle.plan_image.specs.declared.body.Instr.TheVariants as op
use Rattle.plan_image.specs.declared.image.Sort.{Sort}
use Rattle.plan_image.specs.declared.image.Sort.TheVariants as sort
use Rattle.plan_image.specs.declared.image.Edge.{Edge}
use Rattle.plan_image.specs.declared.image.Pool.{Pool}
use Rattle.plan_image.specs.declared.image.Slot.{Slot}
use Rattle.plan_image.specs.declared.body.Opening.{Opening}
use Rattle.plan_image.specs.declared.image.Parts.{Parts}
use Rattle.plan_image.specs.declared.image.EdgeCode.{EdgeCode}
use Rattle.plan_image.specs.declared.image.EdgeCode.TheVariants as code_form
use Rattle.plan_image.specs.declared.body.BodyInstr.{BodyInstr}
use Rattle.plan_image.specs.declared.body.BodyInstr.TheVariants as member
use Rattle.plan_image.specs.Bodies.{put}
use Rattle.plan_image.specs.Opcodes.{flag_byte}
use Rattle.plan_image.specs.Spelling.{operand}

-- words, separated by spaces, and the end of the line
abbrev pub line : List (List ℕ) → List ℕ
line words = join_with_byte 32 words ++ 10 ∷ []

abbrev pub hex_byte : ℕ → List ℕ
hex_byte b = digit_glyph false (b / 16) ∷ digit_glyph false (b % 16) ∷ []

-- bytes in hexadecimal digits, or a dash if there are none
abbrev pub hex : List ℕ → List ℕ
hex [] = codes "-"
hex (b ∷ bytes) = concat (map hex_byte (b ∷ bytes))

-- numbers, separated by spaces, or a dash if there are none
abbrev pub members : List ℕ → List ℕ
members [] = codes "-"
members (n ∷ ns) = join_with_byte 32 (map decimal (n ∷ ns))

abbrev pub kind_letter : Kind → List ℕ
kind_letter kind.Stamp = codes "S"
kind_letter kind.Flag = codes "F"
kind_letter kind.Text = codes "T"
kind_letter kind.Paths = codes "P"
kind_letter kind.Swept = codes "Q"

abbrev pub sort_word : Sort → List ℕ
sort_word sort.Command = codes "command"
sort_word sort.Phony = codes "phony"

abbrev pub name : Instr → List ℕ
name op.End = codes "End"
name (op.Stat f) = codes "Stat"
name (op.Need f) = codes "Need"
name (op.Load s) = codes "Load"
name (op.Store s) = codes "Store"
name op.Older = codes "Older"
name op.Newer = codes "Newer"
name op.Before = codes "Before"
name op.Same = codes "Same"
name op.IsMissing = codes "IsMissing"
name op.Or = codes "Or"
name op.Not = codes "Not"
name (op.Flag b) = codes "Flag"
name op.Zero = codes "Zero"
name op.NoPaths = codes "NoPaths"
name (op.Text t) = codes "Text"
name op.Join = codes "Join"
name op.Equal = codes "Equal"
name op.Recall = codes "Recall"
name op.Sweep = codes "Sweep"
name (op.Jump d) = codes "Jump"
name (op.JumpIf d) = codes "JumpIf"
name op.Take = codes "Take"
name op.Release = codes "Release"
name op.Run = codes "Run"
name op.Deps = codes "Deps"
name op.Keep = codes "Keep"
name op.Drop = codes "Drop"
name op.Swap = codes "Swap"

-- the number after a name
abbrev pub operand_number : Instr → Option ℕ
operand_number (op.Flag b) = Some (flag_byte b)
operand_number i = operand i

-- the number after a space, if there is one
abbrev pub operand_words : Option ℕ → List ℕ
operand_words None = []
operand_words (Some n) = 32 ∷ decimal n

abbrev pub pool_words : Option ℕ → List ℕ
pool_words None = codes "-"
pool_words (Some n) = decimal n

-- the lines of each item, in order, given its number
abbrev pub numbered : {X : Type 0} → (ℕ → X → List ℕ) → ℕ → List X → List ℕ
numbered lines n [] = []
numbered lines n (x ∷ xs) = lines n x ++ numbered lines (n + 1) xs

-- a word, the number, and the bytes
abbrev pub bytes_line : List ℕ → ℕ → List ℕ → List ℕ
bytes_line word n bytes = line (word ∷ decimal n ∷ hex bytes ∷ [])

abbrev pub pool_line : ℕ → Pool → List ℕ
pool_line n q = line (codes "pool" ∷ decimal n ∷ hex q.name ∷ codes "depth" ∷ decimal q.depth ∷ [])

abbrev pub slot_line : ℕ → Slot → List ℕ
slot_line n s = line (codes "slot" ∷ decimal n ∷ codes "owner" ∷ decimal s.owner ∷ codes "kind" ∷ kind_letter s.kind ∷ [])

-- two spaces, the place, the name, and the operand
abbrev pub instr_line : ℕ → Instr → List ℕ
instr_line place i = codes "  " ++ line (decimal place ∷ (name i ++ operand_words (operand_number i)) ∷ [])

abbrev pub open_line : ℕ → Opening → List ℕ
open_line place o = codes "  " ++ line (decimal place ∷ name (put o 0) ∷ codes "_" ∷ [])

abbrev pub body_instr_line : ℕ → BodyInstr → List ℕ
body_instr_line place (member.Fixed i) = instr_line place i
body_instr_line place (member.Open o) = open_line place o

abbrev pub body_lines : ℕ → List BodyInstr → List ℕ
body_lines n b = line (codes "body" ∷ decimal n ∷ []) ++ numbered body_instr_line 0 b

abbrev pub bodies_lines : Option (List (List BodyInstr)) → List ℕ
bodies_lines None = []
bodies_lines (Some bs) = numbered body_lines 0 bs

abbrev pub shared_words : ℕ → List ℕ → List ℕ
shared_words n ns = 32 ∷ line (codes "body" ∷ decimal n ∷ codes "operands" ∷ members ns ∷ [])

-- the end of an edge's line, and the lines below it: its own instructions, or its body and its operands
abbrev pub code_words : EdgeCode → List ℕ
code_words (code_form.Own is) = 10 ∷ numbered instr_line 0 is
code_words (code_form.Shared n ns) = shared_words n ns

abbrev pub edge_words : ℕ → Edge → List ℕ
edge_words n x =
    join_with_byte 32 (codes "edge" ∷ decimal n ∷ sort_word x.sort ∷ codes "rank" ∷ decimal x.rank ∷ codes "pool" ∷ pool_words x.pool ∷ codes "label" ∷ decimal x.label
    ∷ codes "outputs" ∷ members x.outputs ∷ codes "waits" ∷ members x.waits ∷ [])

abbrev pub edge_lines : ℕ → Edge → List ℕ
edge_lines n x = edge_words n x ++ code_words x.code

abbrev pub default_line : List ℕ → List ℕ
default_line ns = line (codes "default" ∷ members ns ∷ [])

-- the whole text
abbrev pub listing_of : Parts → List ℕ
listing_of p =
    numbered (bytes_line (codes "text")) 0 p.texts ++ (numbered (bytes_line (codes "file")) 0 p.files ++ (numbered pool_line 0 p.pools ++ (numbered slot_line 0 p.slots
    ++ (bodies_lines p.bodies ++ (numbered edge_lines 0 p.edges ++ default_line p.defaults)))))
