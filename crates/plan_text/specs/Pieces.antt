-- The pieces of a path or a value: bytes that stand for themselves, and references to variables. (Ninja manual,
-- "Lexical syntax": the escapes of `$`.)
use Rattle.std.specs.Prelude.{ℕ, zero, suc, ◌+◌, ◌==◌, Bool, true, false, not, ◌||◌, ◌&&◌, List, [], ◌∷◌, length, drop, if◌then◌else◌, Result, Ok, Err, Option, Some, None}
use Rattle.std.specs.List.{prefix_len, take_while}
use Rattle.plan_text.specs.Bytes.{nul, tab, line_feed, carriage_return, space, dollar, colon, left_brace, right_brace, is_bare_name_byte, is_name_byte, is_space, begins_with}
use Rattle.plan_text.specs.declared.fault.TextFault.{TextFault}
use Rattle.plan_text.specs.declared.fault.TextFault.TheVariants.{TabBlank, NulByte, BadEscape}
use Rattle.plan_text.specs.declared.piece_reader.Mode.{Mode}
use Rattle.plan_text.specs.declared.piece_reader.Mode.TheVariants as mode
use Rattle.plan_text.specs.declared.piece_reader.Piece.{Piece}
use Rattle.plan_text.specs.declared.piece_reader.Piece.TheVariants.{Literal, Reference}

-- The meaning of one byte or escape: a byte, a reference by its name, or nothing if it continues a line.
pub data Sign : Type 0 where
  Byte : ℕ → Sign
  Name : List ℕ → Sign
  Nothing : Sign

-- a name right after `$`; an empty name is no reference
abbrev pub bare_name : List ℕ → Option (Sign × ℕ)
bare_name [] = None
bare_name (b ∷ name) = Some (Name (b ∷ name), length (b ∷ name))

-- a name after `${`, and the text after the name, which must begin with the closing brace
abbrev pub braced_name : List ℕ → List ℕ → Option (Sign × ℕ)
braced_name [] rest = None
braced_name (b ∷ name) rest = if begins_with right_brace rest then Some (Name (b ∷ name), length (b ∷ name) + 2) else None

-- The meaning of `$` and the text after it, and the number of bytes of that text that belong to it. A newline
-- includes the spaces after it.
abbrev pub escape : List ℕ → Option (Sign × ℕ)
escape [] = None
escape (b ∷ rest) =
    if b == dollar || b == space || b == colon then Some (Byte b, 1)
    else if b == line_feed then Some (Nothing, 1 + prefix_len is_space rest)
    else if b == carriage_return && begins_with line_feed rest then Some (Nothing, 2 + prefix_len is_space (drop 1 rest))
    else if b == left_brace then braced_name (take_while is_name_byte rest) (drop (prefix_len is_name_byte rest) rest)
    else bare_name (take_while is_bare_name_byte (b ∷ rest))

-- the number of bytes after a `$` that belong to its escape
abbrev pub size_of : Option (Sign × ℕ) → Option ℕ
size_of None = None
size_of (Some x) = Some x.1

abbrev pub escape_size : List ℕ → Option ℕ
escape_size text = size_of (escape text)

abbrev pub is_path : Mode → Bool
is_path mode.Path = true
is_path mode.Value = false

abbrev pub or_bad : ℕ → Option (Sign × ℕ) → Result (Sign × ℕ) TextFault
or_bad at None = Err (BadEscape at)
or_bad at (Some x) = Ok x

-- The meaning of the byte at offset `at` and the bytes of the rest that belong to it, with their number, or the
-- fault at this offset.
abbrev pub sign_at : Mode → ℕ → ℕ → List ℕ → Result (Sign × ℕ) TextFault
sign_at mode at b rest =
    if b == dollar then or_bad at (escape rest)
    else if b == nul then Err (NulByte at)
    else if b == tab && is_path mode then Err (TabBlank at)
    else Ok (Byte b, 0)

-- adds the meaning of one byte or escape before the pieces that follow; adjacent bytes form one literal
abbrev pub onto : Sign → List Piece → List Piece
onto (Byte b) (Literal bytes ∷ more) = Literal (b ∷ bytes) ∷ more
onto (Byte b) (Reference name ∷ more) = Literal (b ∷ []) ∷ Reference name ∷ more
onto (Byte b) [] = Literal (b ∷ []) ∷ []
onto (Name name) more = Reference name ∷ more
onto Nothing more = more

abbrev pub all_onto : Sign → Result (List Piece) TextFault → Result (List Piece) TextFault
all_onto sign (Ok more) = Ok (onto sign more)
all_onto sign (Err fault) = Err fault

abbrev pub in_front : Result (Sign × ℕ) TextFault → (ℕ → Result (List Piece) TextFault) → Result (List Piece) TextFault
in_front (Ok x) more = all_onto x.0 (more x.1)
in_front (Err fault) more = Err fault

-- the pieces of a text after the bytes to skip (see Runs), or its first fault; the text is at offset `at`
abbrev pub pieces_past : Mode → ℕ → List ℕ → ℕ → Result (List Piece) TextFault
pieces_past mode at [] skip = Ok []
pieces_past mode at (b ∷ rest) (suc skip) = pieces_past mode (at + 1) rest skip
pieces_past mode at (b ∷ rest) zero = in_front (sign_at mode at b rest) (λ skip. pieces_past mode (at + 1) rest skip)

-- the pieces of a text at offset `at`
abbrev pub pieces_from : Mode → ℕ → List ℕ → Result (List Piece) TextFault
pieces_from mode at text = pieces_past mode at text 0

-- the pieces of a text, or its first fault
abbrev pub pieces_of : Mode → List ℕ → Result (List Piece) TextFault
pieces_of mode text = pieces_from mode 0 text

-- the text that is read as these bytes: a `$` before each `$`, space and colon
abbrev pub escape_bytes : List ℕ → List ℕ
escape_bytes [] = []
escape_bytes (b ∷ rest) = if b == dollar || b == space || b == colon then dollar ∷ b ∷ escape_bytes rest else b ∷ escape_bytes rest

-- whether a byte is allowed, escaped or not: no NUL, and no tab in a path
abbrev pub is_allowed : Mode → ℕ → Bool
is_allowed mode b = not (b == nul || b == tab && is_path mode)

-- one literal of these bytes, or no piece if there are none
abbrev pub literal_of : List ℕ → List Piece
literal_of [] = []
literal_of (b ∷ bytes) = Literal (b ∷ bytes) ∷ []
