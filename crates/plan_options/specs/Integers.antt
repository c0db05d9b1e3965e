-- Numbers in values of options, as C's strtol reads them.
use Rattle.std.specs.Prelude.{ℕ, zero, suc, ◌==◌, nat_le, Bool, ◌||◌, ◌&&◌, List, [], ◌∷◌, Option, Some, None, drop, min, option_map, if◌then◌else◌}
use Rattle.std.specs.List.{prefix_len}
use Rattle.plan_text.specs.Bytes.{hyphen, space}
use Rattle.plan_text.specs.Numerals.{is_numeral, number_past}
use Rattle.plan_options.specs.declared.integer.Integer.{Integer}
use Rattle.plan_options.specs.declared.integer.Integer.TheVariants.{Negative, AtLeastZero}

abbrev pub plus : ℕ
plus = 43

-- White space of C: a space, or one of the bytes 9 to 13, among them the tab and the ends of lines and pages.
abbrev pub is_white : ℕ → Bool
is_white b = b == space || (nat_le 9 b && nat_le b 13)

-- A text after the white space that it begins with.
abbrev pub past_white : List ℕ → List ℕ
past_white text = drop (prefix_len is_white text) text

-- The number that digits mean, or `most` if it is greater.
abbrev pub magnitude : ℕ → List ℕ → Option ℕ
magnitude most digits = if is_numeral digits then Some (min (number_past 0 digits) most) else None

-- A number with a minus before it. Minus 0 is 0.
abbrev pub negative : ℕ → Integer
negative zero = AtLeastZero 0
negative (suc n) = Negative

-- The number of digits that may have a sign before them.
abbrev pub signed : ℕ → List ℕ → Option Integer
signed most [] = None
signed most (b ∷ more) =
    if b == hyphen then option_map negative (magnitude most more)
    else if b == plus then option_map (λ n. AtLeastZero n) (magnitude most more)
    else option_map (λ n. AtLeastZero n) (magnitude most (b ∷ more))

-- The number in a text, or `most` if it is greater. An empty text is 0.
abbrev pub integer_in : ℕ → List ℕ → Option Integer
integer_in most [] = Some (AtLeastZero 0)
integer_in most (b ∷ more) = signed most (past_white (b ∷ more))
