-- Numbers that grow with their digits. Lemmas for src/numerals.rt.
use Rattle.std.proofs.Common.{◌≡◌, ◌≤◌, ◌<◌, ℕ, ◌+◌, ◌-◌, ◌*◌, Bool, true, false, List, [], ◌∷◌, length, drop, get_or, Option, Some, None, cond, refl, ap, sym, arith}
use Rattle.std.specs.Prelude.{nat_le}
use Rattle.std.proofs.lemmas.Bool.{lt-leb}
use Rattle.std.proofs.lemmas.Bool.Decides.{nat_tests}
use Rattle.std.proofs.lemmas.List.{drop_more}
use Rattle.plan_text.specs.Numerals.{number_past, at_most}

number_grows : (n : ℕ) (digits : List ℕ) → n ≤ number_past n digits
number_grows n [] = omega arith
number_grows n (b ∷ more) = let e : n * 10 + (b - 48) ≤ number_past (n * 10 + (b - 48)) more = number_grows (n * 10 + (b - 48)) more in omega (arith, e)

too_great_by : (n most : ℕ) (t : Bool) → nat_le n most ≡ t → None ≡ cond {A = Option ℕ} t (Some n) None → most < n
too_great_by n most true e h = absurd cc
too_great_by n most false e h = grind (arith, nat_tests, e)

-- a number that is too great stays too great
pub stays_too_great : (digits : List ℕ) (most n i : ℕ) → i < length digits → number_past n (drop i digits) ≡ number_past 0 digits
    → None ≡ cond {A = Option ℕ} (nat_le (n * 10 + (get_or digits i 0 - 48)) most) (Some (n * 10 + (get_or digits i 0 - 48))) None → None ≡ at_most most digits
stays_too_great digits most n i l so_far h =
    let next = n * 10 + (get_or digits i 0 - 48) in
    let over = too_great_by next most (nat_le next most) refl h in
    let e : number_past n (drop i digits) ≡ number_past next (drop (i + 1) digits) = ap (number_past n) (drop_more digits i 0 l) in
    let g = number_grows next (drop (i + 1) digits) in
    let more : most < number_past 0 digits = omega (arith, over, g, e, so_far) in
    sym (ap (λ (t : Bool). cond {A = Option ℕ} t (Some (number_past 0 digits)) None) (lt-leb (number_past 0 digits) most more))
