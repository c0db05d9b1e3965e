-- The lines of a text by blocks: an unindented line, and the indented lines below it.
use Rattle.std.specs.Prelude.{ℕ, ◌+◌, ◌==◌, nat_lt, Bool, false, List, [], ◌∷◌, length, drop, if◌then◌else◌, Option, Some, None}
use Rattle.std.specs.List.{position_or_len, filter_map}
use Rattle.plan_text.specs.Bytes.{nul, hash, is_blank, begins_with}
use Rattle.plan_text.specs.Lines.{indent_len, Raw}
use Rattle.plan_text.specs.declared.fault.TextFault.{TextFault}
use Rattle.plan_text.specs.declared.fault.TextFault.TheVariants.{NulByte}
use Rattle.plan_parse.specs.Reading.{Place}

-- a line of a block: its text after the indentation, or the fault of a comment
pub data BlockLine : Type 0 where
  Text : Place → BlockLine
  Refused : TextFault → BlockLine

-- a line that begins a block, or one that belongs to the block above it
pub data LineRole : Type 0 where
  Head : Place → LineRole
  Below : BlockLine → LineRole

-- a line that begins with a space or a tab is indented
abbrev pub is_indented : List ℕ → Bool
is_indented [] = false
is_indented (b ∷ rest) = is_blank b

abbrev pub role_of_comment : ℕ → List ℕ → Option LineRole
role_of_comment at bytes =
    let nul_at = position_or_len (λ b. b == nul) bytes in
    if nat_lt nul_at (length bytes) then Some (Below (Refused (NulByte (at + nul_at)))) else None

-- The role of a logical line. A blank line has none, and a comment has one only if it has a NUL byte.
abbrev pub role_of_line : Raw → Option LineRole
role_of_line raw =
    let indent = indent_len raw.bytes in
    let place : Place = record { at = raw.at + indent; bytes = drop indent raw.bytes } in
    if length raw.bytes == indent then None
    else if begins_with hash place.bytes then role_of_comment raw.at raw.bytes
    else Some (if is_indented raw.bytes then Below (Text place) else Head place)

abbrev pub roles_of_lines : List Raw → List LineRole
roles_of_lines raws = filter_map role_of_line raws

-- the lines at the front that belong to the block above them
abbrev pub below : List LineRole → List BlockLine
below [] = []
below (Below line ∷ more) = line ∷ below more
below (Head p ∷ more) = []

pub record Block : Type 0 where
  pub head : Place
  pub lines : List BlockLine

abbrev pub blocks_of : List LineRole → List Block
blocks_of [] = []
blocks_of (Head p ∷ more) = record { head = p; lines = below more } ∷ blocks_of more
blocks_of (Below line ∷ more) = blocks_of more
