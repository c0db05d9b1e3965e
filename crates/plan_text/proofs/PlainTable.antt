-- Tables of the bytes that pass a test.
use Rattle.std.proofs.Common.{◌≡◌, ℕ, zero, suc, ◌+◌, ◌<◌, Bool, true, false, ◌&&◌, not, List, [], ◌∷◌, length, get_or, refl, ap, sym, ◌∙◌, arith}
use Rattle.plan_text.specs.declared.piece_reader.TheConstants.{PLAIN, NAME, BARE_NAME}
use Rattle.plan_text.specs.declared.piece_reader.Mode.TheVariants as mode
use Rattle.plan_text.specs.Bytes.{is_name_byte, is_bare_name_byte}
use Rattle.plan_text.specs.Gathering.{is_special}

abbrev same : Bool → Bool → Bool
same true b = b
same false b = not b

same_is : (a b : Bool) → same a b ≡ true → a ≡ b
same_is true b h = sym h
same_is false true h = cc
same_is false false h = refl

both_true : (a b : Bool) → (a && b) ≡ true → (a ≡ true) × (b ≡ true)
both_true true b h = (refl, h)
both_true false b h = cc

-- a table has the results of a test for the bytes from n on
abbrev tells : (ℕ → Bool) → ℕ → List Bool → Bool
tells test n [] = true
tells test n (t ∷ ts) = same t (test n) && tells test (suc n) ts

told : (test : ℕ → Bool) (n : ℕ) (ts : List Bool) → tells test n ts ≡ true → (i k : ℕ) → i < length ts → k ≡ n + i → get_or ts i false ≡ test k
told test n [] h i k lt e = let f : ⊥ = omega arith in absurd f
told test n (t ∷ ts) h zero k lt e =
    let here : k ≡ n = omega (arith, e) in
    same_is t (test n) (both_true (same t (test n)) (tells test (suc n) ts) h).0 ∙ ap test (sym here)
told test n (t ∷ ts) h (suc i) k lt e = told test (suc n) ts (both_true (same t (test n)) (tells test (suc n) ts) h).1 i k (omega arith) (omega (arith, e))

-- the table has, for each byte, whether it stands for itself in a path
pub plain_told : (b : ℕ) → b < 256 → get_or PLAIN b false ≡ not (is_special mode.Path b)
plain_told b lt = told (λ n. not (is_special mode.Path n)) 0 PLAIN refl b b lt (omega arith)

-- the table has, for each byte, whether it may be in a name right after `$`
pub bare_name_told : (b : ℕ) → b < 256 → get_or BARE_NAME b false ≡ is_bare_name_byte b
bare_name_told b lt = told (λ n. is_bare_name_byte n) 0 BARE_NAME refl b b lt (omega arith)

-- the table has, for each byte, whether it may be in any other name
pub name_told : (b : ℕ) → b < 256 → get_or NAME b false ≡ is_name_byte b
name_told b lt = told (λ n. is_name_byte n) 0 NAME refl b b lt (omega arith)
