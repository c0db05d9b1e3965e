-- The logical lines of a text. (Ninja manual, "Lexical syntax": newlines are significant, `$` before a newline
-- continues a line, and a comment runs to the end of its line.)
use Rattle.std.specs.Prelude.{◌≡◌, ◌⊎◌, ◌++◌, ℕ, zero, suc, ◌+◌, ◌-◌, ◌==◌, nat_lt, Bool, true, ◌||◌, ◌&&◌, List, [], ◌∷◌, length, take, drop, if◌then◌else◌, Result, Ok, Err, Option, Some, None, map}
use Rattle.std.specs.List.{prefix_len, position_or_len}
use Rattle.plan_text.specs.Bytes.{nul, tab, line_feed, carriage_return, hash, dollar, is_space, begins_with}
use Rattle.plan_text.specs.Runs.{run}
use Rattle.plan_text.specs.Limits.{max_source}
use Rattle.plan_text.specs.declared.fault.TextFault.{TextFault}
use Rattle.plan_text.specs.declared.fault.TextFault.TheVariants.{TabBlank, NulByte, SourceTooLong}
use Rattle.plan_text.specs.declared.line_reader.Line.{Line}

-- the length of the newline that a text begins with: 1 for LF, 2 for CR LF, 0 if there is none
abbrev pub newline_len : List ℕ → ℕ
newline_len [] = 0
newline_len (b ∷ rest) = if b == line_feed then 1 else if b == carriage_return && begins_with line_feed rest then 2 else 0

abbrev pub begins_newline : List ℕ → Bool
begins_newline text = nat_lt 0 (newline_len text)

-- the number of bytes that a `$` escapes in the text after it: a newline, or else one byte
abbrev pub escaped_len : List ℕ → ℕ
escaped_len [] = 0
escaped_len (b ∷ rest) = if begins_newline (b ∷ rest) then newline_len (b ∷ rest) else 1

-- the length of the unit of a logical line: a byte, or a `$` with the bytes that it escapes; a newline is no
-- unit
abbrev pub line_unit : List ℕ → ℕ
line_unit [] = 0
line_unit (b ∷ rest) = if begins_newline (b ∷ rest) then 0 else if b == dollar then suc (escaped_len rest) else 1

-- the length of the unit of a comment: a byte; a newline is no unit
abbrev pub comment_unit : List ℕ → ℕ
comment_unit [] = 0
comment_unit (b ∷ rest) = if begins_newline (b ∷ rest) then 0 else 1

-- the length of the unit of a gap between words: a space, or `$` and a newline
abbrev pub gap_unit : List ℕ → ℕ
gap_unit [] = 0
gap_unit (b ∷ rest) = if is_space b then 1 else if b == dollar && begins_newline rest then suc (newline_len rest) else 0

-- the number of bytes of the gap that a text begins with
abbrev pub gap_len : List ℕ → ℕ
gap_len text = run gap_unit text

-- the number of spaces that a text begins with
abbrev pub indent_len : List ℕ → ℕ
indent_len text = prefix_len is_space text

-- The length of the first logical line of a text, without its newline. A comment is never continued.
abbrev pub logical_len : List ℕ → ℕ
logical_len text =
    let indent = indent_len text in
    if begins_with hash (drop indent text) then indent + run comment_unit (drop indent text) else run line_unit text

-- a logical line of the text: its offset, and its bytes
pub record Raw : Type 0 where
  pub at : ℕ
  pub bytes : List ℕ

-- the logical lines of a text after the bytes to skip (see Runs); the text is at offset `at`
abbrev pub raw_past : ℕ → List ℕ → ℕ → List Raw
raw_past at [] skip = []
raw_past at (b ∷ rest) (suc skip) = raw_past (at + 1) rest skip
raw_past at (b ∷ rest) zero =
    let len = logical_len (b ∷ rest) in
    record { at = at; bytes = take len (b ∷ rest) } ∷ raw_past (at + 1) rest (len + newline_len (drop len (b ∷ rest)) - 1)

abbrev pub raw_lines : List ℕ → List Raw
raw_lines text = raw_past 0 text 0

-- this is the first logical line of a text at any offset, and has this size with its newline: the other lines
-- begin after it
abbrev pub IsFirstLine : List ℕ → List ℕ → ℕ → Type 0
IsFirstLine text line size = (at : ℕ) → raw_past at text 0 ≡ record { at = at; bytes = line } ∷ raw_past (at + size) (drop size text) 0

-- The line that a logical line denotes. A tab must not follow its indent, and a NUL must not be anywhere in it.
-- A line of spaces only, or a comment, denotes no line.
abbrev pub line_of : Raw → Result (Option Line) TextFault
line_of raw =
    let indent = indent_len raw.bytes in
    let nul_at = position_or_len (λ b. b == nul) raw.bytes in
    if begins_with tab (drop indent raw.bytes) then Err (TabBlank (raw.at + indent))
    else if nat_lt nul_at (length raw.bytes) then Err (NulByte (raw.at + nul_at))
    else if length raw.bytes == indent || begins_with hash (drop indent raw.bytes) then Ok None
    else Ok (Some (record { indent = indent; start = raw.at + indent; «end» = raw.at + length raw.bytes }))

abbrev pub line_onto : Line → Result (List Line) TextFault → Result (List Line) TextFault
line_onto line (Ok lines) = Ok (line ∷ lines)
line_onto line (Err fault) = Err fault

-- all lines, or the first fault
abbrev pub collect_lines : List (Result (Option Line) TextFault) → Result (List Line) TextFault
collect_lines [] = Ok []
collect_lines (Err fault ∷ more) = Err fault
collect_lines (Ok None ∷ more) = collect_lines more
collect_lines (Ok (Some line) ∷ more) = line_onto line (collect_lines more)

-- the lines of a text, or its first fault
abbrev pub lines_of : List ℕ → Result (List Line) TextFault
lines_of text = if nat_lt max_source (length text) then Err (SourceTooLong max_source) else collect_lines (map line_of (raw_lines text))

-- a newline, LF or CR LF, and the text after it; the newline may only be absent if no text follows
abbrev pub EndsLine : List ℕ → List ℕ → Type 0
EndsLine newline rest = (newline ≡ line_feed ∷ []) ⊎ ((newline ≡ carriage_return ∷ line_feed ∷ []) ⊎ ((newline ≡ []) × (rest ≡ [])))

-- the text at this offset consists of one line, the newline that ends it, the next line, and so on, and of
-- nothing else
abbrev pub AreLinesOf : ℕ → List Raw → List ℕ → Type 0
AreLinesOf at [] text = text ≡ []
AreLinesOf at (raw ∷ more) text =
    (newline : List ℕ) × (rest : List ℕ) × (raw.at ≡ at) × (text ≡ raw.bytes ++ (newline ++ rest)) × EndsLine newline rest
    × AreLinesOf (at + length raw.bytes + length newline) more rest

-- whether a newline ends each logical line of a text after the bytes to skip
abbrev pub ended_past : List ℕ → ℕ → Bool
ended_past [] skip = true
ended_past (b ∷ rest) (suc skip) = ended_past rest skip
ended_past (b ∷ rest) zero =
    let len = logical_len (b ∷ rest) in
    begins_newline (drop len (b ∷ rest)) && ended_past rest (len + newline_len (drop len (b ∷ rest)) - 1)

-- whether a newline ends each logical line of a text, so that another text may follow
abbrev pub has_ended_lines : List ℕ → Bool
has_ended_lines text = ended_past text 0
