-- Lists with one item more, or one set.
use Rattle.std.proofs.Common.{◌≡◌, ◌≢◌, ◌<◌, ℕ, zero, suc, Bool, true, false, List, [], ◌∷◌, ◌++◌, length, Option, Some, refl, ap, ◌∙◌, arith}
use Rattle.std.proofs.lemmas.Bool.{lt-ltb}
use Rattle.std.proofs.lemmas.Option.{slice_get_within}
use Rattle.std.specs.Prelude.{◌&&◌, if◌then◌else◌, nat_lt, slice_get, slice_set}

pub some_is : {A : Type 0} (x y : A) → ◌≡◌ {A = Option A} (Some x) (Some y) → x ≡ y
some_is x y is = cc

-- the index of an item is less than the length
pub none_within : (xs ys : List ℕ) (i n : ℕ) → slice_get xs i ≡ Some n → ys ≡ xs → false ≡ nat_lt i (length ys) → ⊥
none_within xs ys i n at same out =
    let clash : false ≡ true = out ∙ ap (λ (l : List ℕ). nat_lt i (length l)) same ∙ lt-ltb i (length xs) (slice_get_within xs i n at) in cc

-- an item of a list that is one longer
pub get_before : {A : Type 0} (xs : List A) (y : A) (i : ℕ) → i < length xs → slice_get (xs ++ y ∷ []) i ≡ slice_get xs i
get_before [] y i h = absurd (omega arith)
get_before (x ∷ xs) y zero h = refl
get_before (x ∷ xs) y (suc i) h = get_before xs y i (omega arith)

-- its last item
pub get_last : {A : Type 0} (xs : List A) (y : A) → slice_get (xs ++ y ∷ []) (length xs) ≡ Some y
get_last [] y = refl
get_last (x ∷ xs) y = get_last xs y

-- an item that is set
pub get_set : {A : Type 0} (xs : List A) (y : A) (i : ℕ) → i < length xs → slice_get (slice_set xs i y) i ≡ Some y
get_set [] y i h = absurd (omega arith)
get_set (x ∷ xs) y zero h = refl
get_set (x ∷ xs) y (suc i) h = get_set xs y i (omega arith)

-- another one stays
pub get_other : {A : Type 0} (xs : List A) (y : A) (i k : ℕ) → k ≢ i → slice_get (slice_set xs i y) k ≡ slice_get xs k
get_other [] y i k h = refl
get_other (x ∷ xs) y zero zero h = absurd (h refl)
get_other (x ∷ xs) y zero (suc k) h = refl
get_other (x ∷ xs) y (suc i) zero h = refl
get_other (x ∷ xs) y (suc i) (suc k) h = get_other xs y i k (λ e. h (ap suc e))

pub when_either : {A : Type 0} (P : A → Type 0) (b : Bool) (x y : A) → P x → P y → P (if b then x else y)
when_either P true x y yes_x no_y = yes_x
when_either P false x y yes_x no_y = no_y

pub both_on : (a b : Bool) → (a && b) ≡ true → (a ≡ true) × (b ≡ true)
both_on true b h = (refl, h)
both_on false b h = absurd cc

-- lists of flags that are raised at the same places
pub same_flags : (xs ys : List Bool) → length xs ≡ length ys → ((e : ℕ) → slice_get xs e ≡ Some true → slice_get ys e ≡ Some true) → ((e : ℕ) → slice_get ys e ≡ Some true → slice_get xs e ≡ Some true) → xs ≡ ys
same_flags [] [] long up down = refl
same_flags [] (y ∷ ys) long up down = absurd (omega (arith, long))
same_flags (x ∷ xs) [] long up down = absurd (omega (arith, long))
same_flags (x ∷ xs) (y ∷ ys) long up down =
    ap (λ (b : Bool). b ∷ xs) (same_flag x y (up zero) (down zero)) ∙ ap (λ (l : List Bool). y ∷ l) (same_flags xs ys (omega (arith, long)) (λ e. up (suc e)) (λ e. down (suc e)))
  where
    same_flag : (x y : Bool) → (Some x ≡ Some true → Some y ≡ Some true) → (Some y ≡ Some true → Some x ≡ Some true) → x ≡ y
    same_flag true true up down = refl
    same_flag false false up down = refl
    same_flag true false up down = let h = up refl in cc
    same_flag false true up down = let h = down refl in cc
