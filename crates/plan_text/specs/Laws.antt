-- Laws about all texts, paths and writes.
use Rattle.std.specs.Prelude.{◌≡◌, ◌<◌, ◌≤◌, ℕ, ◌+◌, Bool, true, false, List, ◌++◌, get_or, length, Option, Ok}
use Rattle.plan_text.specs.Path.{canonical_of}
use Rattle.std.specs.List.{list_all}
use Rattle.plan_text.specs.declared.piece_reader.Mode.{Mode}
use Rattle.plan_text.specs.Lines.{AreLinesOf, has_ended_lines, raw_lines, raw_past}
use Rattle.plan_text.specs.Gathering.{is_special}
use Rattle.plan_text.specs.Pieces.{escape_bytes, is_allowed, pieces_from, pieces_of, literal_of}
use Rattle.plan_text.specs.Sinks.{Writes}

-- the canonical form of a path is canonical, is not empty, and is no longer than the path
abbrev pub CanonicalStays : Type 0
CanonicalStays = (path form : List ℕ) → canonical_of path ≡ Ok form → (canonical_of form ≡ Ok form) × (0 < length form) × (length form ≤ length path)

-- a write after a complete write counts as one write of the bytes of both
abbrev pub WritesJoin : Type 0
WritesJoin = (well : Bool) (a b c : ℕ × Option (List ℕ)) (xs ys : List ℕ) → Writes true a b xs → Writes well b c ys → Writes well a c (xs ++ ys)

-- a failed write of some bytes also counts as a failed write of more bytes
abbrev pub FailedWriteStays : Type 0
FailedWriteStays = (a b : ℕ × Option (List ℕ)) (xs ys : List ℕ) → Writes false a b xs → Writes false a b (xs ++ ys)

-- the logical lines of a text, joined with the newlines that end them, are the text: no byte is skipped, and
-- none is read twice
abbrev pub LinesCover : Type 0
LinesCover = (text : List ℕ) → AreLinesOf 0 (raw_lines text) text

-- escaped bytes are read back as the same bytes
abbrev pub EscapedIsRead : Type 0
EscapedIsRead = (mode : Mode) (bytes : List ℕ) → list_all (is_allowed mode) bytes ≡ true → pieces_of mode (escape_bytes bytes) ≡ Ok (literal_of bytes)

-- a text can be appended to a text whose lines are all ended, and the logical lines of both stay the same
abbrev pub LinesJoin : Type 0
LinesJoin = (at : ℕ) (front back : List ℕ) → has_ended_lines front ≡ true → raw_past at (front ++ back) 0 ≡ raw_past at front 0 ++ raw_past (at + length front) back 0

-- bytes that all stand for themselves are one literal, at any offset
abbrev pub PlainIsRead : Type 0
PlainIsRead = (mode : Mode) (at : ℕ) (text : List ℕ) → ((k : ℕ) → k < length text → is_special mode (get_or text k 0) ≡ false) → pieces_from mode at text ≡ Ok (literal_of text)
