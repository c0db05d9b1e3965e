-- Decimal numbers.
use Rattle.std.specs.Prelude.{ℕ, ◌+◌, ◌-◌, ◌*◌, ◌==◌, nat_le, Bool, not, ◌&&◌, List, [], ◌∷◌, length, if◌then◌else◌, Option, Some, None}
use Rattle.std.specs.List.{list_all}
use Rattle.plan_text.specs.Bytes.{digit_zero, digit_nine}

abbrev pub is_digit : ℕ → Bool
is_digit b = nat_le digit_zero b && nat_le b digit_nine

-- whether a text consists of one digit or more
abbrev pub is_numeral : List ℕ → Bool
is_numeral text = not (length text == 0) && list_all is_digit text

-- the number that digits represent if they follow the digits of n
abbrev pub number_past : ℕ → List ℕ → ℕ
number_past n [] = n
number_past n (b ∷ more) = number_past (n * 10 + (b - digit_zero)) more

-- the number that digits represent, if it is at most this
abbrev pub at_most : ℕ → List ℕ → Option ℕ
at_most most digits = if nat_le (number_past 0 digits) most then Some (number_past 0 digits) else None

-- the number that a text represents in digits, if it is at most this
abbrev pub number_in : ℕ → List ℕ → Option ℕ
number_in most text = if is_numeral text then at_most most text else None
