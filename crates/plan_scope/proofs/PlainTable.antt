-- The table of the bytes that a shell takes as they are. Used for src/scope/text.rt, `is_plain`.
use Rattle.std.proofs.Common.{◌≡◌, ℕ, zero, suc, ◌+◌, ◌<◌, Bool, true, false, ◌&&◌, not, List, [], ◌∷◌, length, get_or, refl, ap, sym, ◌∙◌, arith}
use Rattle.plan_scope.specs.declared.scope.text.TheConstants.{PLAIN}
use Rattle.plan_scope.specs.Expansion.{is_plain}

abbrev same : Bool → Bool → Bool
same true b = b
same false b = not b

same_is : (a b : Bool) → same a b ≡ true → a ≡ b
same_is true b h = sym h
same_is false true h = cc
same_is false false h = refl

both_true : (a b : Bool) → (a && b) ≡ true → (a ≡ true) × (b ≡ true)
both_true true b h = (refl, h)
both_true false b h = cc

-- A table of the bytes from a number on.
abbrev tells : ℕ → List Bool → Bool
tells n [] = true
tells n (t ∷ ts) = same t (is_plain n) && tells (suc n) ts

told : (n : ℕ) (ts : List Bool) → tells n ts ≡ true → (i k : ℕ) → i < length ts → k ≡ n + i → get_or ts i false ≡ is_plain k
told n [] h i k lt e = let f : ⊥ = omega arith in absurd f
told n (t ∷ ts) h zero k lt e =
    let here : k ≡ n = omega (arith, e) in
    same_is t (is_plain n) (both_true (same t (is_plain n)) (tells (suc n) ts) h).0 ∙ ap is_plain (sym here)
told n (t ∷ ts) h (suc i) k lt e = told (suc n) ts (both_true (same t (is_plain n)) (tells (suc n) ts) h).1 i k (omega arith) (omega (arith, e))

-- The table shows for each byte whether it is plain.
pub plain_told : (b : ℕ) → b < 256 → get_or PLAIN b false ≡ is_plain b
plain_told b lt = told 0 PLAIN refl b b lt (omega arith)
