-- Elements of lists, tests of them, and choices.
use Rattle.std.proofs.Common.{◌≡◌, ℕ, zero, suc, ◌+◌, ◌<◌, Bool, true, false, eqb, List, [], ◌∷◌, length, map, Option, Some, None, refl, sym, ap, ◌∙◌, subst, arith, inl, inr}
use Rattle.std.specs.Prelude.{◌⊎◌, not, ◌||◌, ◌&&◌, slice_get, slice_set, slice_index_or, IsSome, if◌then◌else◌, Contains}
use Rattle.std.specs.List.{list_all, list_any}
use Rattle.std.proofs.lemmas.Bool.{eqb-true, eq-eqb}
use Rattle.plan_image.specs.declared.image.Slot.{Slot}
use Rattle.plan_image.specs.declared.image.Parts.{Parts}
use Rattle.plan_verify.specs.Members.{is_member}
use Rattle.plan_verify.specs.Tables.{own_from, own_slots}

pub some_is : {A : Type 0} (x y : A) → ◌≡◌ {A = Option A} (Some x) (Some y) → x ≡ y
some_is x y e = cc

pub get_inside : {A : Type 0} (xs : List A) (k : ℕ) → k < length xs → (x : A) × (slice_get xs k ≡ Some x)
get_inside [] k lt = absurd (omega arith)
get_inside (x ∷ xs) zero lt = (x, refl)
get_inside (x ∷ xs) (suc k) lt = get_inside xs k (omega arith)

pub get_same : {A : Type 0} (xs : List A) (i : ℕ) (x : A) → i < length xs → slice_get (slice_set xs i x) i ≡ Some x
get_same [] i x lt = absurd (omega arith)
get_same (z ∷ xs) zero x lt = refl
get_same (z ∷ xs) (suc i) x lt = get_same xs i x (omega arith)

pub get_other : {A : Type 0} (xs : List A) (i j : ℕ) (x : A) → (i ≡ j → ⊥) → slice_get (slice_set xs i x) j ≡ slice_get xs j
get_other [] i j x ne = refl
get_other (z ∷ xs) zero zero x ne = absurd (ne refl)
get_other (z ∷ xs) zero (suc j) x ne = refl
get_other (z ∷ xs) (suc i) zero x ne = refl
get_other (z ∷ xs) (suc i) (suc j) x ne = get_other xs i j x (λ e. ne (ap suc e))

pub set_here : {A : Type 0} (xs : List A) (i : ℕ) (x : A) → slice_get xs i ≡ Some x → slice_set xs i x ≡ xs
set_here [] i x h = refl
set_here {A} (y ∷ xs) zero x h = let same : y ≡ x = cc in ap (λ (z : A). z ∷ xs) (sym same)
set_here {A} (y ∷ xs) (suc i) x h = ap (λ (l : List A). y ∷ l) (set_here xs i x h)

pub set_length : {A : Type 0} (xs : List A) (i : ℕ) (x : A) → length (slice_set xs i x) ≡ length xs
set_length [] i x = refl
set_length (z ∷ xs) zero x = refl
set_length (z ∷ xs) (suc i) x = ap suc (set_length xs i x)

pub map_length : {A B : Type 0} (f : A → B) (xs : List A) → length (map f xs) ≡ length xs
map_length f [] = refl
map_length f (x ∷ xs) = ap suc (map_length f xs)

pub when_true : {A : Type 0} (P : A → Type 0) (b : Bool) (x y : A) → b ≡ true → P x → P (if b then x else y)
when_true P true x y e h = h
when_true P false x y e h = absurd cc

pub when_false : {A : Type 0} (P : A → Type 0) (b : Bool) (x y : A) → b ≡ false → P y → P (if b then x else y)
when_false P false x y e h = h
when_false P true x y e h = absurd cc

pub when_either : {A : Type 0} (P : A → Type 0) (b : Bool) (x y : A) → (b ≡ true → P x) → (b ≡ false → P y) → P (if b then x else y)
when_either P true x y h k = h refl
when_either P false x y h k = k refl

pub or_false : (a b : Bool) → (a || b) ≡ false → (a ≡ false) × (b ≡ false)
or_false true b e = absurd cc
or_false false b e = (refl, e)

pub or_cases : (a b : Bool) → (a || b) ≡ true → (a ≡ true) ⊎ (b ≡ true)
or_cases true b h = inl refl
or_cases false b h = inr h

pub or_right : (a b : Bool) → b ≡ true → (a || b) ≡ true
or_right true b h = refl
or_right false b h = h

pub and_both : (a b : Bool) → (a && b) ≡ true → (a ≡ true) × (b ≡ true)
and_both true b h = (refl, h)
and_both false b h = absurd cc

pub not_false : (a : Bool) → not a ≡ false → a ≡ true
not_false true e = refl
not_false false e = absurd cc

pub is_some_of : {A : Type 0} (o : Option A) → IsSome o → (x : A) × (o ≡ Some x)
is_some_of (Some x) h = (x, refl)
is_some_of None h = absurd cc

-- an element after a write is the written one, or one from before
pub get_cases : {A : Type 0} (xs : List A) (i j : ℕ) (x y : A) → slice_get (slice_set xs i x) j ≡ Some y → ((i ≡ j) × (x ≡ y)) ⊎ ((i ≡ j → ⊥) × (slice_get xs j ≡ Some y))
get_cases [] i j x y h = absurd cc
get_cases (z ∷ xs) zero zero x y h = inl (refl, some_is x y h)
get_cases (z ∷ xs) zero (suc j) x y h = inr ((λ e. omega (arith, e)), h)
get_cases (z ∷ xs) (suc i) zero x y h = inr ((λ e. omega (arith, e)), h)
get_cases (z ∷ xs) (suc i) (suc j) x y h =
    elim (get_cases xs i j x y h) [ inl p ↦ inl (ap suc p.0, p.1) | inr p ↦ inr ((λ e. p.0 (omega (arith, e))), p.1) ]

-- if all items pass, each item does
pub all_member : (f : ℕ → Bool) (ns : List ℕ) (n : ℕ) → list_all f ns ≡ true → is_member n ns ≡ true → f n ≡ true
all_member f [] n h k = absurd cc
all_member f (m ∷ ns) n h k =
    let b = and_both (f m) (list_all f ns) h in
    elim (or_cases (eqb m n) (is_member n ns) k) [ inl e ↦ ap f (sym (eqb-true m n e)) ∙ b.0 | inr r ↦ all_member f ns n b.1 r ]

pub all_more : (f g : ℕ → Bool) (ns : List ℕ) → ((n : ℕ) → f n ≡ true → g n ≡ true) → list_all f ns ≡ true → list_all g ns ≡ true
all_more f g [] more h = refl
all_more f g (n ∷ ns) more h =
    let b = and_both (f n) (list_all f ns) h in rw (more n b.0, all_more f g ns more b.1) refl

-- an edge's own slots are listed
own_from_all : (f : ℕ → Bool) (e n k : ℕ) (slots : List Slot) (slot : Slot) → slice_get slots k ≡ Some slot → slot.owner ≡ e → list_all f (own_from e n slots) ≡ true → f (n + k) ≡ true
own_from_all f e n k [] slot at own h = absurd cc
own_from_all f e n zero (s ∷ slots) slot at own h =
    let mine : eqb s.owner e ≡ true = eq-eqb s.owner e (ap (λ (x : Slot). x.owner) (some_is s slot at) ∙ own) in
    let g : list_all f (n ∷ own_from e (n + 1) slots) ≡ true = subst (λ (b : Bool). list_all f (if b then n ∷ own_from e (n + 1) slots else own_from e (n + 1) slots) ≡ true) mine h in
    ap f (zero_more n) ∙ (and_both (f n) (list_all f (own_from e (n + 1) slots)) g).0
  where
    zero_more : (n : ℕ) → n + 0 ≡ n
    zero_more n = omega arith
own_from_all f e n (suc k) (s ∷ slots) slot at own h =
    ap f (one_more n k) ∙ own_from_all f e (n + 1) k slots slot at own (later_part (eqb s.owner e) h)
  where
    one_more : (n k : ℕ) → n + suc k ≡ n + 1 + k
    one_more n k = omega arith

    later_part : (b : Bool) → list_all f (if b then n ∷ own_from e (n + 1) slots else own_from e (n + 1) slots) ≡ true → list_all f (own_from e (n + 1) slots) ≡ true
    later_part true h = (and_both (f n) (list_all f (own_from e (n + 1) slots)) h).1
    later_part false h = h

pub own_all : (p : Parts) (f : ℕ → Bool) (e k : ℕ) (slot : Slot) → slice_get p.slots k ≡ Some slot → slot.owner ≡ e → list_all f (own_slots p e) ≡ true → f k ≡ true
own_all p f e k slot at own h =
    let zero_plus : 0 + k ≡ k = omega arith in
    ap f (sym zero_plus) ∙ own_from_all f e 0 k p.slots slot at own h

pub member_contained : (n : ℕ) (ns : List ℕ) → is_member n ns ≡ true → Contains ns n
member_contained n [] h = absurd cc
member_contained n (m ∷ ns) h = elim (or_cases (eqb m n) (is_member n ns) h) [
  | inl e ↦ (0, omega arith, eqb-true m n e)
  | inr r ↦ let c = member_contained n ns r in (suc c.0, omega (arith, c.1), c.2)
]

pub index_member : (es : List ℕ) (k d : ℕ) → k < length es → is_member (slice_index_or es k d) es ≡ true
index_member [] k d lt = absurd (omega (arith, lt))
index_member (e ∷ es) zero d lt = ap (λ (b : Bool). b || is_member e es) (eq-eqb e e refl)
index_member (e ∷ es) (suc k) d lt = or_right (eqb e (slice_index_or es k d)) (is_member (slice_index_or es k d) es) (index_member es k d (omega (arith, lt)))

pub none_member : (f : ℕ → Bool) (ns : List ℕ) (n : ℕ) → list_any f ns ≡ false → is_member n ns ≡ true → f n ≡ false
none_member f [] n h k = absurd cc
none_member f (m ∷ ns) n h k =
    let b = or_false (f m) (list_any f ns) h in
    elim (or_cases (eqb m n) (is_member n ns) k) [ inl e ↦ ap f (sym (eqb-true m n e)) ∙ b.0 | inr r ↦ none_member f ns n b.1 r ]
