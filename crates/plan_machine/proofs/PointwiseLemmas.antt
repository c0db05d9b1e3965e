-- Comparing two lists from the front, item by item.
use Rattle.std.proofs.Common.{◌≡◌, ◌≢◌, ℕ, zero, suc, ◌+◌, ◌<◌, ◌≤◌, Bool, true, false, List, [], ◌∷◌, length, drop, Option, Some, None, refl, sym, ap, ◌∙◌, arith}
use Rattle.std.specs.Prelude.{◌&&◌, slice_get, bytes_eq, get_or}
use Rattle.std.specs.Cmp.Lexicographic.{pointwise}
use Rattle.std.proofs.lemmas.Option.{slice_get-get_or}
use Rattle.plan_machine.specs.Sameness.{same_at}

and_off : (a b : Bool) → b ≡ false → (a && b) ≡ false
and_off true b h = h
and_off false b h = refl

module _ {A : Type 0} (same : A → A → Bool) where
  none_second : (o : Option A) → same_at same o None ≡ false
  none_second None = refl
  none_second (Some x) = refl

  -- lists of different lengths
  pub pointwise_long : (a b : List A) → length a ≢ length b → pointwise same a b ≡ false
  pointwise_long [] [] ne = absurd (ne refl)
  pointwise_long [] (y ∷ b) ne = refl
  pointwise_long (x ∷ a) [] ne = refl
  pointwise_long (x ∷ a) (y ∷ b) ne = and_off (same x y) (pointwise same a b) (pointwise_long a b (λ e. ne (ap suc e)))

  at_on : (i : ℕ) (a b : List A) → same_at same (slice_get a i) (slice_get b i) ≡ true → pointwise same (drop i a) (drop i b) ≡ pointwise same (drop (suc i) a) (drop (suc i) b)
  at_on zero [] b h = absurd cc
  at_on (suc i) [] b h = absurd cc
  at_on zero (x ∷ a) [] h = absurd cc
  at_on (suc i) (x ∷ a) [] h = absurd (let clash : true ≡ false = sym h ∙ none_second (slice_get a i) in cc)
  at_on zero (x ∷ a) (y ∷ b) h = ap (λ (c : Bool). c && pointwise same a b) h
  at_on (suc i) (x ∷ a) (y ∷ b) h = at_on i a b h

  -- the items at an index are the same
  pub pointwise_on : (i : ℕ) (a b : List A) (r : Bool) → pointwise same (drop i a) (drop i b) ≡ r → same_at same (slice_get a i) (slice_get b i) ≡ true → pointwise same (drop (i + 1) a) (drop (i + 1) b) ≡ r
  pointwise_on i a b r so h = let one : i + 1 ≡ suc i = omega arith in rw one (sym (at_on i a b h) ∙ so)

  at_off : (i : ℕ) (a b : List A) → i < length a → i < length b → same_at same (slice_get a i) (slice_get b i) ≡ false → pointwise same (drop i a) (drop i b) ≡ false
  at_off i [] b lt lt2 h = absurd (omega (arith, lt))
  at_off i (x ∷ a) [] lt lt2 h = absurd (omega (arith, lt2))
  at_off zero (x ∷ a) (y ∷ b) lt lt2 h = ap (λ (c : Bool). c && pointwise same a b) h
  at_off (suc i) (x ∷ a) (y ∷ b) lt lt2 h = at_off i a b (omega (arith, lt)) (omega (arith, lt2)) h

  -- the items at an index differ
  pub pointwise_off : (i : ℕ) (a b : List A) (r : Bool) → pointwise same (drop i a) (drop i b) ≡ r → i < length a → length a ≡ length b → same_at same (slice_get a i) (slice_get b i) ≡ false → r ≡ false
  pointwise_off i a b r so lt long h = sym so ∙ at_off i a b lt (omega (arith, lt, long)) h

  past : (i : ℕ) (a : List A) → length a ≤ i → drop i a ≡ []
  past zero [] h = refl
  past zero (x ∷ a) h = absurd (omega (arith, h))
  past (suc i) [] h = refl
  past (suc i) (x ∷ a) h = past i a (omega (arith, h))

  at_end : (i : ℕ) (a b : List A) → length a ≤ i → length b ≤ i → pointwise same (drop i a) (drop i b) ≡ true
  at_end i a b h k = ap (λ (z : List A). pointwise same z (drop i b)) (past i a h) ∙ ap (λ (z : List A). pointwise same [] z) (past i b k)

  -- there are no more items
  pub pointwise_done : (i : ℕ) (a b : List A) (r : Bool) → pointwise same (drop i a) (drop i b) ≡ r → length a ≤ i → length a ≡ length b → r ≡ true
  pointwise_done i a b r so h long = sym so ∙ at_end i a b h (omega (arith, h, long))

-- texts at an index of two lists
pub texts_at : (a b : List (List ℕ)) (i : ℕ) (r : Bool) → i < length a → i < length b → r ≡ bytes_eq (get_or a i []) (get_or b i []) → r ≡ same_at bytes_eq (slice_get a i) (slice_get b i)
texts_at a b i r lt lt2 is =
    let one : slice_get a i ≡ Some (get_or a i []) = slice_get-get_or a i [] lt in
    let other : slice_get b i ≡ Some (get_or b i []) = slice_get-get_or b i [] lt2 in
    is ∙ sym (ap (λ (o : Option (List ℕ)). same_at bytes_eq o (slice_get b i)) one ∙ ap (λ (o : Option (List ℕ)). same_at bytes_eq (Some (get_or a i [])) o) other)
