-- Ascending numbers: membership and insertion.
use Rattle.std.proofs.Common.{◌≡◌, ℕ, zero, suc, ◌+◌, ◌<◌, ◌≤◌, Bool, true, false, eqb, List, [], ◌∷◌, length, get_or, refl, sym, ap, arith}
use Rattle.std.specs.Prelude.{◌||◌}
use Rattle.std.specs.List.{insert}
use Rattle.std.proofs.lemmas.Bool.{eq-eqb, ne_eqb, lt-ltb, le-ltb}
use Rattle.plan_image.specs.Spelling.{AscendsFrom}
use Rattle.plan_verify.specs.Members.{is_member, with_member}

-- ---- the places of ascending numbers

above_least : (least : ℕ) (xs : List ℕ) (j : ℕ) → AscendsFrom least xs → j < length xs → least ≤ get_or xs j 0
above_least least [] j up lt = absurd (omega arith)
above_least least (x ∷ xs) zero up lt = up.0
above_least least (x ∷ xs) (suc j) up lt = let rest = above_least (x + 1) xs j up.1 (omega arith) in let first = up.0 in omega (arith, rest, first)

-- a later number is not less
pub rises : (least : ℕ) (xs : List ℕ) → AscendsFrom least xs → (i j : ℕ) → i ≤ j → j < length xs → get_or xs i 0 ≤ get_or xs j 0
rises least [] up i j le lt = absurd (omega arith)
rises least (x ∷ xs) up zero zero le lt = omega arith
rises least (x ∷ xs) up zero (suc j) le lt = let rest = above_least (x + 1) xs j up.1 (omega arith) in omega (arith, rest)
rises least (x ∷ xs) up (suc i) zero le lt = absurd (omega arith)
rises least (x ∷ xs) up (suc i) (suc j) le lt = rises (x + 1) xs up.1 i j (omega arith) (omega arith)

-- ---- members

pub member_at : (n : ℕ) (xs : List ℕ) (i : ℕ) → i < length xs → get_or xs i 0 ≡ n → is_member n xs ≡ true
member_at n [] i lt at = absurd (omega arith)
member_at n (x ∷ xs) zero lt at = rw (eq-eqb x n at) refl
member_at n (x ∷ xs) (suc i) lt at = or_true (eqb x n) (is_member n xs) (member_at n xs i (omega arith) at)
  where
    or_true : (a b : Bool) → b ≡ true → (a || b) ≡ true
    or_true true b e = refl
    or_true false b e = e

-- a number is no member if those before a place are less and those after it are greater
pub not_member_at : (n : ℕ) (xs : List ℕ) (at : ℕ) → ((k : ℕ) → k < at → get_or xs k 0 < n) → ((k : ℕ) → at ≤ k → k < length xs → n < get_or xs k 0) → is_member n xs ≡ false
not_member_at n [] at low high = refl
not_member_at n (x ∷ xs) zero low high =
    let above = high 0 (omega arith) (omega arith) in
    rw (ne_eqb x n (λ e. omega (arith, e, above))) (not_member_at n xs zero (λ k lt. absurd (omega arith)) (λ k le lt. high (suc k) (omega arith) (omega arith)))
not_member_at n (x ∷ xs) (suc at) low high =
    let below = low 0 (omega arith) in
    rw (ne_eqb x n (λ e. omega (arith, e, below))) (not_member_at n xs at (λ k lt. low (suc k) (omega arith)) (λ k le lt. high (suc k) (omega arith) (omega arith)))

-- ---- one more

-- inserting a number that is a member
pub with_member_at : (least n : ℕ) (xs : List ℕ) (i : ℕ) → AscendsFrom least xs → i < length xs → get_or xs i 0 ≡ n → with_member n xs ≡ xs
with_member_at least n [] i up lt at = absurd (omega arith)
with_member_at least n (x ∷ xs) zero up lt at = rw (le-ltb n x (omega (arith, at)), eq-eqb n x (sym at)) refl
with_member_at least n (x ∷ xs) (suc i) up lt at =
    let rest = above_least (x + 1) xs i up.1 (omega arith) in
    rw (le-ltb n x (omega (arith, at, rest)), ne_eqb n x (λ e. omega (arith, at, rest, e))) (ap (λ (ys : List ℕ). x ∷ ys) (with_member_at (x + 1) n xs i up.1 (omega arith) at))

-- inserting a number that is not a member, after the lesser ones
pub inserted : (n : ℕ) (xs : List ℕ) (at : ℕ) → at ≤ length xs → ((k : ℕ) → k < at → get_or xs k 0 < n) → ((k : ℕ) → at ≤ k → k < length xs → n < get_or xs k 0) → insert xs at n ≡ with_member n xs
inserted n [] zero le low high = refl
inserted n [] (suc at) le low high = absurd (omega arith)
inserted n (x ∷ xs) zero le low high = rw (lt-ltb n x (high 0 (omega arith) (omega arith))) refl
inserted n (x ∷ xs) (suc at) le low high =
    let below = low 0 (omega arith) in
    rw (le-ltb n x (omega (arith, below)), ne_eqb n x (λ e. omega (arith, e, below))) (ap (λ (ys : List ℕ). x ∷ ys) (inserted n xs at (omega arith) (λ k lt. low (suc k) (omega arith)) (λ k l lt. high (suc k) (omega arith) (omega arith))))
