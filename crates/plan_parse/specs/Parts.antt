-- Paths, part by part.
use Rattle.std.specs.Prelude.{◌≡◌, ◌+◌, ◌<◌, ◌≤◌, ◌==◌, ℕ, suc, List, [], ◌∷◌, length, take, drop, if◌then◌else◌, Option, Some, None, Result, Ok, Err}
use Rattle.plan_text.specs.Bytes.{nul, tab, dollar}
use Rattle.plan_text.specs.Gathering.{bytes_onto}
use Rattle.plan_text.specs.Pieces.{Sign, Byte, Name, Nothing, escape_size, pieces_from}
use Rattle.plan_text.specs.declared.fault.TextFault.{TextFault}
use Rattle.plan_text.specs.declared.fault.TextFault.TheVariants as text
use Rattle.plan_text.specs.declared.piece_reader.Mode.TheVariants as mode
use Rattle.plan_text.specs.declared.piece_reader.Piece.{Piece}
use Rattle.plan_text.specs.declared.piece_reader.Piece.TheVariants.{Reference}
use Rattle.plan_parse.specs.declared.path_parts.PathPart.{PathPart}
use Rattle.plan_parse.specs.declared.path_parts.PathPart.TheVariants as part
use Rattle.plan_parse.specs.Reading.{ends_path, path_len}

-- the meaning of a part that has at most one byte, or is a name
abbrev pub sign_of_bytes : List ℕ → Sign
sign_of_bytes [] = Nothing
sign_of_bytes (b ∷ bytes) = Byte b

abbrev pub sign_of : PathPart → Sign
sign_of (part.Text bytes) = sign_of_bytes bytes.now
sign_of (part.Name name) = Name name.now

-- a part that has at most one byte, or is a name
abbrev pub IsShort : PathPart → Type 0
IsShort (part.Text bytes) = length bytes.now ≤ 1
IsShort (part.Name name) = Unit {0}

-- a part before the pieces that follow
abbrev pub part_onto : PathPart → List Piece → List Piece
part_onto (part.Text bytes) more = bytes_onto bytes.now more
part_onto (part.Name name) more = Reference name.now ∷ more

-- applies a function to pieces, if there are any
abbrev pub map_pieces : (List Piece → List Piece) → Result (List Piece) TextFault → Result (List Piece) TextFault
map_pieces f (Ok pieces) = Ok (f pieces)
map_pieces f (Err fault) = Err fault

-- the pieces of a path are its first part, which takes this number of bytes, before those of the rest; or the
-- path has this fault
abbrev pub IsFirstPart : ℕ → List ℕ → Result (PathPart × ℕ) TextFault → Type 0
IsFirstPart at text (Ok x) =
    (0 < x.1) × (x.1 ≤ length text) × (pieces_from mode.Path at text ≡ map_pieces (part_onto x.0) (pieces_from mode.Path (at + x.1) (drop x.1 text)))
IsFirstPart at text (Err fault) = pieces_from mode.Path at text ≡ Err fault

-- the number of bytes of a `$` at offset `at` with its escape, if it has one
abbrev pub escape_unit : ℕ → Option ℕ → Result ℕ TextFault
escape_unit at (Some len) = Ok (suc len)
escape_unit at None = Err (text.BadEscape at)

-- the number of bytes of the unit that a path at offset `at` begins with, 0 if it has none, or the fault of its
-- first byte
abbrev pub unit_at : ℕ → List ℕ → Result ℕ TextFault
unit_at at [] = Ok 0
unit_at at (b ∷ rest) =
    if ends_path b then Ok 0
    else if b == dollar then escape_unit at (escape_size rest)
    else if b == nul then Err (text.NulByte at)
    else if b == tab then Err (text.TabBlank at)
    else Ok 1

-- the pieces of the path that a text at offset `at` begins with
abbrev pub first_path : ℕ → List ℕ → Result (List Piece) TextFault
first_path at bytes = pieces_from mode.Path at (take (path_len bytes) bytes)

-- the result is no fault
abbrev pub GoesWell : {A E : Type 0} → Result A E → Type 0
GoesWell {A} r = (x : A) × (r ≡ Ok x)

-- the result is no fault if the other isn't; otherwise it is the same fault
abbrev pub FailsAs : {A B E : Type 0} → Result A E → Result B E → Type 0
FailsAs r (Ok x) = GoesWell r
FailsAs r (Err e) = r ≡ Err e
