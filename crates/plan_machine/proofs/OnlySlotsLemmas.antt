-- The slots that a test selects, with the others unset.
use Rattle.std.proofs.Common.{◌≡◌, ℕ, zero, suc, Bool, true, false, [], ◌∷◌, length, replicate, Option, Some, None, refl, sym, ap, ◌∙◌, arith}
use Rattle.std.specs.Prelude.{◌||◌, slice_get, slice_set}
use Rattle.plan_verify.specs.declared.value.Value.{Value}
use Rattle.plan_verify.specs.Turn.{Slots}
use Rattle.plan_machine.proofs.ListLemmas.{some_is}

abbrev pub pick : Bool → Option Value → Option Value
pick true v = v
pick false v = None

abbrev pub only : (ℕ → Bool) → Slots → Slots
only f [] = []
only f (v ∷ vs) = pick (f zero) v ∷ only (λ n. f (suc n)) vs

abbrev pub unset : ℕ → Slots
unset n = replicate {A = Option Value} n None

same_cons : (x y : Option Value) (xs ys : Slots) → x ≡ y → xs ≡ ys → ◌≡◌ {A = Slots} (x ∷ xs) (y ∷ ys)
same_cons x y xs ys e h = ap (λ (z : Option Value). z ∷ xs) e ∙ ap (λ (zs : Slots). y ∷ zs) h

pub only_on : (f : ℕ → Bool) (xs : Slots) (k : ℕ) → f k ≡ true → slice_get (only f xs) k ≡ slice_get xs k
only_on f [] k h = refl
only_on f (x ∷ xs) zero h = ap (λ (b : Bool). Some (pick b x)) h
only_on f (x ∷ xs) (suc k) h = only_on (λ n. f (suc n)) xs k h

pub only_set_on : (f : ℕ → Bool) (xs : Slots) (k : ℕ) (v : Option Value) → f k ≡ true → only f (slice_set xs k v) ≡ slice_set (only f xs) k v
only_set_on f [] k v h = refl
only_set_on f (x ∷ xs) zero v h = ap (λ (b : Bool). pick b v ∷ only (λ n. f (suc n)) xs) h
only_set_on f (x ∷ xs) (suc k) v h = ap (λ (zs : Slots). pick (f zero) x ∷ zs) (only_set_on (λ n. f (suc n)) xs k v h)

pub only_set_off : (f : ℕ → Bool) (xs : Slots) (k : ℕ) (v : Option Value) → f k ≡ false → only f (slice_set xs k v) ≡ only f xs
only_set_off f [] k v h = refl
only_set_off f (x ∷ xs) zero v h = ap (λ (b : Bool). pick b v ∷ only (λ n. f (suc n)) xs) h ∙ sym (ap (λ (b : Bool). pick b x ∷ only (λ n. f (suc n)) xs) h)
only_set_off f (x ∷ xs) (suc k) v h = ap (λ (zs : Slots). pick (f zero) x ∷ zs) (only_set_off (λ n. f (suc n)) xs k v h)

same_pick : (b : Bool) (x y : Option Value) → (b ≡ true → x ≡ y) → pick b x ≡ pick b y
same_pick true x y h = h refl
same_pick false x y h = refl

pub only_same : (f : ℕ → Bool) (xs ys : Slots) → length xs ≡ length ys → ((k : ℕ) → f k ≡ true → slice_get xs k ≡ slice_get ys k) → only f xs ≡ only f ys
only_same f [] [] long h = refl
only_same f [] (y ∷ ys) long h = absurd (omega (arith, long))
only_same f (x ∷ xs) [] long h = absurd (omega (arith, long))
only_same f (x ∷ xs) (y ∷ ys) long h =
    same_cons _ _ _ _ (same_pick (f zero) x y (λ on. some_is x y (h zero on))) (only_same (λ n. f (suc n)) xs ys (omega (arith, long)) (λ k on. h (suc k) on))

pub same_slots : (xs ys : Slots) → length xs ≡ length ys → ((k : ℕ) → slice_get xs k ≡ slice_get ys k) → xs ≡ ys
same_slots [] [] long h = refl
same_slots [] (y ∷ ys) long h = absurd (omega (arith, long))
same_slots (x ∷ xs) [] long h = absurd (omega (arith, long))
same_slots (x ∷ xs) (y ∷ ys) long h = same_cons _ _ _ _ (some_is x y (h zero)) (same_slots xs ys (omega (arith, long)) (λ k. h (suc k)))

pick_pick : (a b : Bool) (x : Option Value) → (a ≡ true → b ≡ true) → pick a (pick b x) ≡ pick a x
pick_pick true b x h = ap (λ (c : Bool). pick c x) (h refl)
pick_pick false b x h = refl

pub only_only : (f g : ℕ → Bool) (xs : Slots) → ((k : ℕ) → f k ≡ true → g k ≡ true) → only f (only g xs) ≡ only f xs
only_only f g [] h = refl
only_only f g (x ∷ xs) h = same_cons _ _ _ _ (pick_pick (f zero) (g zero) x (h zero)) (only_only (λ n. f (suc n)) (λ n. g (suc n)) xs (λ k on. h (suc k) on))

pick_none : (b : Bool) → pick b None ≡ None
pick_none true = refl
pick_none false = refl

pub only_unset : (f : ℕ → Bool) (n : ℕ) → only f (unset n) ≡ unset n
only_unset f zero = refl
only_unset f (suc n) = same_cons _ _ _ _ (pick_none (f zero)) (only_unset (λ k. f (suc k)) n)

pick_or : (a b : Bool) (x : Option Value) → pick a x ≡ None → pick (a || b) x ≡ pick b x
pick_or true true x h = refl
pick_or true false x h = h
pick_or false b x h = refl

-- the slots that one of two tests selects, if none that the first selects is set
pub only_or : (f g : ℕ → Bool) (xs : Slots) (n : ℕ) → only f xs ≡ unset n → only (λ k. f k || g k) xs ≡ only g xs
only_or f g [] n h = refl
only_or f g (x ∷ xs) zero h = absurd cc
only_or f g (x ∷ xs) (suc n) h =
    let head : pick (f zero) x ≡ None = cc in
    let rest : only (λ k. f (suc k)) xs ≡ unset n = cc in
    same_cons _ _ _ _ (pick_or (f zero) (g zero) x head) (only_or (λ k. f (suc k)) (λ k. g (suc k)) xs n rest)
