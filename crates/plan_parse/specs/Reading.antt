-- Reading a logical line from left to right.
use Rattle.std.specs.Prelude.{ℕ, zero, suc, ◌+◌, ◌-◌, ◌==◌, nat_lt, Bool, ◌||◌, ◌&&◌, List, [], ◌∷◌, length, take, drop, if◌then◌else◌, Result, Ok, Err, is_none, unwrap_or}
use Rattle.std.specs.List.{prefix_len}
use Rattle.plan_text.specs.Outcome.{◌>>=◌}
use Rattle.plan_text.specs.Bytes.{nul, tab, dollar, colon, bar, is_name_byte, is_space, begins_with}
use Rattle.plan_text.specs.Runs.{run}
use Rattle.plan_text.specs.Pieces.{escape_size, pieces_from}
use Rattle.plan_text.specs.Lines.{gap_len}
use Rattle.plan_text.specs.declared.fault.TextFault.{TextFault}
use Rattle.plan_text.specs.declared.fault.TextFault.TheVariants as text
use Rattle.plan_text.specs.declared.piece_reader.Mode.TheVariants as mode
use Rattle.plan_text.specs.declared.piece_reader.Piece.{Piece}
use Rattle.plan_parse.specs.declared.fault.ParseFault.{ParseFault}
use Rattle.plan_parse.specs.declared.fault.ParseFault.TheVariants as fault

-- the rest of a line, and its offset
pub record Place : Type 0 where
  pub at : ℕ
  pub bytes : List ℕ

abbrev pub past : ℕ → Place → Place
past n p = record { at = p.at + n; bytes = drop n p.bytes }

-- skips spaces, and each `$` with the newline after it
abbrev pub past_gap : Place → Place
past_gap p = past (gap_len p.bytes) p

-- The fault of a place at which another item was expected. A byte that isn't allowed anywhere comes first.
abbrev pub refusal : ParseFault → Place → ParseFault
refusal expected p =
    if begins_with tab p.bytes then fault.Text (text.TabBlank p.at)
    else if begins_with nul p.bytes then fault.Text (text.NulByte p.at)
    else if begins_with dollar p.bytes && is_none (escape_size (drop 1 p.bytes)) then fault.Text (text.BadEscape p.at)
    else expected

abbrev pub refuse : {A : Type 0} → (ℕ → ParseFault) → Place → Result A ParseFault
refuse expected p = Err (refusal (expected p.at) p)

-- the name at this place, which is empty if there is none
abbrev pub name_of : Place → List ℕ
name_of p = take (prefix_len is_name_byte p.bytes) p.bytes

-- a name, and the place after it and the gap
abbrev pub name_at : Place → Result (List ℕ × Place) ParseFault
name_at p = if prefix_len is_name_byte p.bytes == 0 then refuse fault.ExpectedName p else Ok (name_of p, past_gap (past (prefix_len is_name_byte p.bytes) p))

-- one byte, and the place after it and the gap
abbrev pub byte_at : ℕ → (ℕ → ParseFault) → Place → Result Place ParseFault
byte_at b expected p = if begins_with b p.bytes then Ok (past_gap (past 1 p)) else refuse expected p

-- the end of the line, with the result so far
abbrev pub line_end_at : {A : Type 0} → A → Place → Result A ParseFault
line_end_at x p = if length p.bytes == 0 then Ok x else refuse fault.ExpectedLineEnd p

-- a fault of the text, as one of the statements
abbrev pub of_text : TextFault → ParseFault
of_text text.Memory = fault.Memory
of_text (text.TabBlank at) = fault.Text (text.TabBlank at)
of_text (text.NulByte at) = fault.Text (text.NulByte at)
of_text (text.BadEscape at) = fault.Text (text.BadEscape at)
of_text (text.SourceTooLong at) = fault.Text (text.SourceTooLong at)
of_text text.EmptyPath = fault.Text text.EmptyPath

abbrev pub lift_fault : {A : Type 0} → Result A TextFault → Result A ParseFault
lift_fault (Ok x) = Ok x
lift_fault (Err e) = Err (of_text e)

-- the rest of the line as a value
abbrev pub value_at : Place → Result (List Piece) ParseFault
value_at p = lift_fault (pieces_from mode.Value p.at p.bytes)

-- a space, `:` or `|` ends a path
abbrev pub ends_path : ℕ → Bool
ends_path b = is_space b || b == colon || b == bar

-- a unit of a path: a byte, or a `$` with its escape
abbrev pub path_unit : List ℕ → ℕ
path_unit [] = 0
path_unit (b ∷ rest) = if ends_path b then 0 else if b == dollar then suc (unwrap_or (escape_size rest) 0) else 1

abbrev pub path_len : List ℕ → ℕ
path_len text = run path_unit text

-- the path of this length
abbrev pub path_at : Place → ℕ → Result (List Piece) ParseFault
path_at p len = lift_fault (pieces_from mode.Path p.at (take len p.bytes))

abbrev pub path_onto : List Piece → Result (List (List Piece) × Place) ParseFault → Result (List (List Piece) × Place) ParseFault
path_onto path more = more >>= λ x. Ok (path ∷ x.0, x.1)

-- The paths of a list and the place after them, after the bytes to skip (plan_text, Runs). There may be gaps
-- between paths.
abbrev pub paths_past : ℕ → List ℕ → ℕ → Result (List (List Piece) × Place) ParseFault
paths_past at [] skip = Ok ([], record { at = at; bytes = [] })
paths_past at (b ∷ rest) (suc skip) = paths_past (at + 1) rest skip
paths_past at (b ∷ rest) zero =
    let gap = gap_len (b ∷ rest) in
    let len = path_len (b ∷ rest) in
    if nat_lt 0 gap then paths_past (at + 1) rest (gap - 1)
    else if len == 0 then Ok ([], record { at = at; bytes = b ∷ rest })
    else path_at (record { at = at; bytes = b ∷ rest }) len >>= λ path. path_onto path (paths_past (at + 1) rest (len - 1))

-- the paths of a list, and the place after them
abbrev pub paths_at : Place → Result (List (List Piece) × Place) ParseFault
paths_at p = paths_past p.at p.bytes 0
