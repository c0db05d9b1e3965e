-- Texts in the strings of JSON. Its grammar lets a string have any character except a quotation mark, a backslash and
-- the control characters below 32, which are escaped. Bytes of 128 and more stay as they are.
use Rattle.std.specs.Prelude.{ℕ, ◌==◌, ◌/◌, ◌%◌, [], ◌∷◌, codes, if◌then◌else◌, nat_lt, ◌+◌}
use Rattle.std.specs.List.{flat_map}
use Rattle.plan_scope.specs.Scopes.{Text}

-- a digit of a number in base 16
abbrev pub digit : ℕ → ℕ
digit n = if nat_lt n 10 then 48 + n else 87 + n

-- a byte below 32 that has no letter
abbrev pub by_number : ℕ → Text
by_number b = 92 ∷ 117 ∷ 48 ∷ 48 ∷ digit (b / 16) ∷ digit (b % 16) ∷ []

-- a byte as it is written between the quotes
abbrev pub json_byte : ℕ → Text
json_byte b =
    if b == 34 then 92 ∷ 34 ∷ [] else
    if b == 92 then 92 ∷ 92 ∷ [] else
    if b == 10 then codes "\\n" else
    if b == 13 then codes "\\r" else
    if b == 9 then codes "\\t" else
    if b == 8 then codes "\\b" else
    if b == 12 then codes "\\f" else
    if nat_lt b 32 then by_number b else b ∷ []

-- a text as it is written between the quotes
abbrev pub json_text : Text → Text
json_text text = flat_map json_byte text
