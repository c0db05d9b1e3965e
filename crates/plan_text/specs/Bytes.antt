-- The bytes that the syntax gives a meaning to.
use Rattle.std.specs.Prelude.{ℕ, ◌==◌, Bool, false, ◌||◌, List, [], ◌∷◌}
use Rattle.std.specs.Char.{is_ascii_alphanumeric}

abbrev pub nul : ℕ
nul = 0

abbrev pub tab : ℕ
tab = 9

abbrev pub line_feed : ℕ
line_feed = 10

abbrev pub carriage_return : ℕ
carriage_return = 13

abbrev pub space : ℕ
space = 32

abbrev pub hash : ℕ
hash = 35

abbrev pub dollar : ℕ
dollar = 36

abbrev pub hyphen : ℕ
hyphen = 45

abbrev pub dot : ℕ
dot = 46

abbrev pub slash : ℕ
slash = 47

abbrev pub digit_zero : ℕ
digit_zero = 48

abbrev pub digit_nine : ℕ
digit_nine = 57

abbrev pub colon : ℕ
colon = 58

abbrev pub equals_sign : ℕ
equals_sign = 61

abbrev pub at_sign : ℕ
at_sign = 64

abbrev pub underscore : ℕ
underscore = 95

abbrev pub left_brace : ℕ
left_brace = 123

abbrev pub bar : ℕ
bar = 124

abbrev pub right_brace : ℕ
right_brace = 125

-- whether a byte may be in a name right after `$`: a letter, a digit, `_` or `-`
abbrev pub is_bare_name_byte : ℕ → Bool
is_bare_name_byte b = is_ascii_alphanumeric b || b == underscore || b == hyphen

-- whether a byte may be in any other name: the same bytes, and `.`
abbrev pub is_name_byte : ℕ → Bool
is_name_byte b = is_bare_name_byte b || b == dot

abbrev pub is_space : ℕ → Bool
is_space b = b == space

-- whether a byte is a space or a tab
abbrev pub is_blank : ℕ → Bool
is_blank b = b == space || b == tab

-- whether a text begins with this byte
abbrev pub begins_with : ℕ → List ℕ → Bool
begins_with b [] = false
begins_with b (c ∷ rest) = c == b
