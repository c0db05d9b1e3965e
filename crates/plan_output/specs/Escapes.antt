-- The output of a command as it is shown: the states of a terminal that reads it (ECMA-48), and the text that is left.
use Rattle.std.specs.Prelude.{ℕ, Bool, false, ◌==◌, ◌&&◌, ◌||◌, not, List, [], ◌∷◌, ◌++◌, nat_lt, if◌then◌else◌, Option, Some, None, length, slice_get, ◌-◌}
use Rattle.plan_output.specs.declared.escapes.Reading.{Reading}
use Rattle.plan_output.specs.declared.escapes.Reading.TheVariants.{Text, Escape, ControlSequence, ControlString}

abbrev pub is_escape : ℕ → Bool
is_escape b = b == 27

-- Which byte after `ESC` opens what: `[` a control sequence; `]`, `P`, `X`, `^` and `_` a control string; a byte below
-- `0` more of the same; any other ends the sequence.
abbrev pub after_escape : ℕ → Reading
after_escape b =
    if b == 91 then ControlSequence else
    if b == 93 then ControlString else
    if b == 80 then ControlString else
    if b == 88 then ControlString else
    if b == 94 then ControlString else
    if b == 95 then ControlString else
    if nat_lt b 48 then Escape else Text

-- the state after a byte that is no control character
abbrev pub after_plain : Reading → ℕ → Reading
after_plain Text b = Text
after_plain Escape b = after_escape b
after_plain ControlSequence b = if nat_lt b 64 then ControlSequence else Text
after_plain ControlString b = ControlString

-- the state after a byte; `ESC` begins a sequence, and any other control character ends one
abbrev pub next : Reading → ℕ → Reading
next r b = if b == 27 then Escape else if nat_lt b 32 then Text else after_plain r b

-- a byte is text: in a sequence only control characters and bytes that aren't ASCII are, but not the `BEL` of a string
abbrev pub is_text : Reading → ℕ → Bool
is_text Text b = not (b == 27)
is_text Escape b = not (b == 27) && (nat_lt b 32 || nat_lt 126 b)
is_text ControlSequence b = not (b == 27) && (nat_lt b 32 || nat_lt 126 b)
is_text ControlString b = not (b == 27) && not (b == 7) && nat_lt b 32

-- the text in these bytes, which a terminal in this state reads
abbrev pub text_from : Reading → List ℕ → List ℕ
text_from r [] = []
text_from r (b ∷ rest) = (if is_text r b then b ∷ [] else []) ++ text_from (next r b) rest

abbrev pub without_escapes : List ℕ → List ℕ
without_escapes text = text_from Text text

-- the last line has no line feed
abbrev pub is_no_line_feed : Option ℕ → Bool
is_no_line_feed (Some b) = not (b == 10)
is_no_line_feed None = false

abbrev pub lacks_line_end : List ℕ → Bool
lacks_line_end text = is_no_line_feed (slice_get text (length text - 1))

abbrev pub with_line_end : List ℕ → List ℕ
with_line_end text = if lacks_line_end text then text ++ 10 ∷ [] else text

abbrev pub shown_output : Bool → List ℕ → List ℕ
shown_output escapes text = with_line_end (if escapes then text else without_escapes text)
