-- How many flags of a list are set. Serves src/consoles.rt.
use Rattle.std.proofs.Common.{◌≡◌, ℕ, zero, suc, ◌+◌, ◌<◌, ◌≤◌, Bool, true, false, List, [], ◌∷◌, length, get_or, replicate, refl, arith}
use Rattle.std.specs.Prelude.{slice_set}
use mathlib.Core.Bool.{beq}
use Rattle.plan_status.specs.Trues.{trues}

-- one is set
pub trues_up : (xs : List Bool) (i : ℕ) → i < length xs → get_or xs i false ≡ false → trues (slice_set xs i true) ≡ trues xs + 1
trues_up [] i lt is = absurd (omega (arith, lt))
trues_up (true ∷ xs) zero lt is = absurd cc
trues_up (false ∷ xs) zero lt is = omega arith
trues_up (true ∷ xs) (suc i) lt is = let on = trues_up xs i (omega (arith, lt)) is in omega (arith, on)
trues_up (false ∷ xs) (suc i) lt is = let on = trues_up xs i (omega (arith, lt)) is in omega (arith, on)

-- one is no longer
pub trues_down : (xs : List Bool) (i : ℕ) → get_or xs i false ≡ true → trues xs ≡ trues (slice_set xs i false) + 1
trues_down [] i is = absurd cc
trues_down (true ∷ xs) zero is = omega arith
trues_down (false ∷ xs) zero is = absurd cc
trues_down (true ∷ xs) (suc i) is = let on = trues_down xs i is in omega (arith, on)
trues_down (false ∷ xs) (suc i) is = let on = trues_down xs i is in omega (arith, on)

-- there are no more than flags
pub trues_few : (xs : List Bool) → trues xs ≤ length xs
trues_few [] = omega arith
trues_few (true ∷ xs) = let on = trues_few xs in omega (arith, on)
trues_few (false ∷ xs) = let on = trues_few xs in omega (arith, on)

-- and fewer where one isn't set
pub trues_fewer : (xs : List Bool) (i : ℕ) → i < length xs → get_or xs i false ≡ false → trues xs < length xs
trues_fewer [] i lt is = absurd (omega (arith, lt))
trues_fewer (true ∷ xs) zero lt is = absurd cc
trues_fewer (false ∷ xs) zero lt is = let few = trues_few xs in omega (arith, few)
trues_fewer (true ∷ xs) (suc i) lt is = let on = trues_fewer xs i (omega (arith, lt)) is in omega (arith, on)
trues_fewer (false ∷ xs) (suc i) lt is = let on = trues_fewer xs i (omega (arith, lt)) is in omega (arith, on)

-- none is set
pub none_set : (xs : List Bool) (i : ℕ) → trues xs ≡ 0 → get_or xs i false ≡ false
none_set [] i none = refl
none_set (true ∷ xs) i none = absurd (omega (arith, none))
none_set (false ∷ xs) zero none = refl
none_set (false ∷ xs) (suc i) none = let on : trues xs ≡ 0 = omega (arith, none) in none_set xs i on

-- or some is
pub one_set : (xs : List Bool) → (trues xs ≡ 0 → ⊥) → (i : ℕ) × (get_or xs i false ≡ true)
one_set [] some = absurd (some refl)
one_set (true ∷ xs) some = (zero, refl)
one_set (false ∷ xs) some = let on = one_set xs (λ none. some (let all : trues (false ∷ xs) ≡ 0 = omega (arith, none) in all)) in (suc on.0, on.1)

-- a flag that is set so; one that is raised is in the list
pub set_so : (xs : List Bool) (i : ℕ) (b : Bool) → (b ≡ true → i < length xs) → get_or (slice_set xs i b) i false ≡ b
set_so [] i true within = absurd (let lt = within refl in omega (arith, lt))
set_so [] i false within = refl
set_so (x ∷ xs) zero b within = refl
set_so (x ∷ xs) (suc i) b within = set_so xs i b (λ is. let lt = within is in omega (arith, lt))

-- another stays
pub set_beside : (xs : List Bool) (i k : ℕ) (b : Bool) → (i ≡ k → ⊥) → get_or (slice_set xs i b) k false ≡ get_or xs k false
set_beside [] i k b other = refl
set_beside (x ∷ xs) zero zero b other = absurd (other refl)
set_beside (x ∷ xs) zero (suc k) b other = refl
set_beside (x ∷ xs) (suc i) zero b other = refl
set_beside (x ∷ xs) (suc i) (suc k) b other = set_beside xs i k b (λ same. other (let one : suc i ≡ suc k = omega (arith, same) in one))

-- what is set to what it is stays as it is
pub set_same : (xs : List Bool) (i : ℕ) (b : Bool) → get_or xs i false ≡ b → slice_set xs i b ≡ xs
set_same [] i b is = refl
set_same (x ∷ xs) zero b is = cc
set_same (x ∷ xs) (suc i) b is = let on = set_same xs i b is in cc

-- none is set in a list of flags that aren't
pub none_true : (xs : List Bool) → ((i : ℕ) → get_or xs i false ≡ false) → trues xs ≡ 0
none_true [] are = refl
none_true (x ∷ xs) are = let here = are zero in let on = none_true xs (λ i. are (suc i)) in rw (here, on) refl

-- flags that differ
pub flag_low : (a b : Bool) → beq a b ≡ false → b ≡ true → a ≡ false
flag_low true true differ is = absurd cc
flag_low true false differ is = absurd cc
flag_low false b differ is = refl

pub flag_high : (a b : Bool) → beq a b ≡ false → b ≡ false → a ≡ true
flag_high true b differ is = refl
flag_high false true differ is = absurd cc
flag_high false false differ is = absurd cc

-- none is set at first
pub none_at_first : (n i : ℕ) → get_or (replicate n false) i false ≡ false
none_at_first zero i = refl
none_at_first (suc n) zero = refl
none_at_first (suc n) (suc i) = none_at_first n i
