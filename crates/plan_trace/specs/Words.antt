-- Lines and words, and the value of one word.
use Rattle.std.specs.Prelude.{ℕ, ◌+◌, ◌-◌, ◌*◌, ◌==◌, ◌&&◌, nat_le, List, [], ◌∷◌, Option, Some, None, if◌then◌else◌, codes}
use Rattle.std.specs.List.{slice_split}
use Rattle.std.specs.Str.{bytes_eq}
use Rattle.std.specs.Fmt.{decimal}
use Rattle.plan_text.specs.Numerals.{number_in}

-- the parts between the bytes with this value
abbrev pub parts_at : ℕ → List ℕ → List (List ℕ)
parts_at at text = slice_split (λ b. b == at) text

-- ---- numbers

abbrev pub if_spelled : List ℕ → Option ℕ → Option ℕ
if_spelled word (Some n) = if bytes_eq word (decimal n) then Some n else None
if_spelled word None = None

-- a number in decimal digits without leading zeros, if it is at most this
abbrev pub number_of : ℕ → List ℕ → Option ℕ
number_of most word = if_spelled word (number_in most word)

-- ---- bytes in hexadecimal digits

-- a digit, 0 to 9 or a to f
abbrev pub digit_value : ℕ → Option ℕ
digit_value b = if nat_le 48 b && nat_le b 57 then Some (b - 48) else if nat_le 97 b && nat_le b 102 then Some (b - 87) else None

abbrev pub byte_by : Option ℕ → Option ℕ → Option ℕ
byte_by (Some high) (Some low) = Some (high * 16 + low)
byte_by high low = None

-- the byte of two digits
abbrev pub byte_of : ℕ → ℕ → Option ℕ
byte_of high low = byte_by (digit_value high) (digit_value low)

abbrev pub onto : Option ℕ → Option (List ℕ) → Option (List ℕ)
onto (Some byte) (Some bytes) = Some (byte ∷ bytes)
onto byte bytes = None

-- the bytes of pairs of digits
abbrev pub pairs_of : List ℕ → Option (List ℕ)
pairs_of [] = Some []
pairs_of (high ∷ []) = None
pairs_of (high ∷ low ∷ rest) = onto (byte_of high low) (pairs_of rest)

abbrev pub some_pairs_of : List ℕ → Option (List ℕ)
some_pairs_of [] = None
some_pairs_of (b ∷ rest) = pairs_of (b ∷ rest)

-- the bytes of a word, or none for a dash
abbrev pub bytes_of : List ℕ → Option (List ℕ)
bytes_of word = if bytes_eq word (codes "-") then Some [] else some_pairs_of word
