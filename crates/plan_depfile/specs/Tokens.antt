-- The tokens that the bytes of a depfile form.
use Rattle.std.specs.Prelude.{ℕ, zero, suc, ◌+◌, ◌==◌, ◌||◌, ◌&&◌, List, [], ◌∷◌, if◌then◌else◌}
use Rattle.plan_text.specs.Bytes.{begins_with, carriage_return, colon, dollar, hash, is_blank, line_feed, space}
use Rattle.plan_depfile.specs.declared.lexer.token.Token.{Token}
use Rattle.plan_depfile.specs.declared.lexer.token.Token.TheVariants.{Byte, Blank, Colon, Hash, Dollar, Newline}

-- a token, the offset of its first byte and the offset of its last
pub record Mark : Type 0 where
  pub token : Token
  pub start : ℕ
  pub last : ℕ

abbrev pub backslash : ℕ
backslash = 92

-- the token of a backslash, and the number of bytes after it that belong to it: a newline after it forms a
-- blank, a space, a hash or a colon after it stands for itself, and any other backslash is itself
abbrev pub escaped : List ℕ → Token × ℕ
escaped [] = (Byte backslash, 0)
escaped (b ∷ rest) =
    if b == line_feed then (Blank, 1)
    else if b == carriage_return && begins_with line_feed rest then (Blank, 2)
    else if b == space || b == hash || b == colon then (Byte b, 1)
    else (Byte backslash, 0)

-- the token at the front of a text, which continues with the byte b and the rest, and the number of bytes of the
-- rest that belong to it
abbrev pub token_at : ℕ → List ℕ → Token × ℕ
token_at b rest =
    if b == backslash then escaped rest
    else if b == dollar then (if begins_with dollar rest then (Byte dollar, 1) else (Dollar, 0))
    else if b == colon then (Colon, 0)
    else if b == hash then (Hash, 0)
    else if is_blank b then (Blank, 0)
    else if b == line_feed then (Newline, 0)
    else if b == carriage_return && begins_with line_feed rest then (Newline, 1)
    else (Byte b, 0)

abbrev pub mark_at : ℕ → Token × ℕ → Mark
mark_at at s = record { token = s.0; start = at; last = at + s.1 }

-- the first token, and then the tokens after the bytes that belong to it
abbrev pub and_past : ℕ → Token × ℕ → (ℕ → List Mark) → List Mark
and_past at s more = mark_at at s ∷ more s.1

-- the tokens of a text at offset `at`, after its first n bytes
abbrev pub marks_past : ℕ → List ℕ → ℕ → List Mark
marks_past at [] n = []
marks_past at (b ∷ rest) (suc n) = marks_past (suc at) rest n
marks_past at (b ∷ rest) zero = and_past at (token_at b rest) (λ n. marks_past (suc at) rest n)

abbrev pub marks_of : List ℕ → List Mark
marks_of text = marks_past 0 text 0
