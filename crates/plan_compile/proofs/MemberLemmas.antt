-- Members of lists.
use Rattle.std.proofs.Common.{◌≡◌, ℕ, zero, suc, ◌<◌, Bool, true, false, List, [], ◌∷◌, ◌++◌, length, map, take, drop, Some, refl, ap, subst, ◌∙◌, arith, cond, inl, inr}
use Rattle.std.specs.Prelude.{◌⊎◌, ◌||◌, ◌==◌, slice_get, slice_index_or, get_or, nat_le, Contains, All, filter}
use Rattle.std.specs.List.{list_any}
use Rattle.std.proofs.lemmas.Bool.{eqb-true, eq-eqb, lt-leb}
use Rattle.plan_verify.specs.Members.{is_member}
use Rattle.plan_compile.proofs.ListLemmas.{some_is, or_cases, or_left, or_right}

-- membership by recursion
abbrev pub In : {X : Type 0} → X → List X → Type 0
In x [] = ⊥
In x (y ∷ ys) = (y ≡ x) ⊎ In x ys

pub in_list : {X : Type 0} (xs : List X) (x : X) → Contains xs x → In x xs
in_list [] x (k, h, e) = absurd (omega (arith, h))
in_list (y ∷ ys) x (zero, h, e) = inl e
in_list (y ∷ ys) x (suc k, h, e) = inr (in_list ys x (k, omega (arith, h), e))

pub contained : {X : Type 0} (xs : List X) (x : X) → In x xs → Contains xs x
contained [] x h = absurd h
contained (y ∷ ys) x h = elim h [ inl e ↦ (0, omega arith, e) | inr i ↦ (suc (contained ys x i).0, omega (arith, (contained ys x i).1), (contained ys x i).2) ]

pub in_get : {X : Type 0} (xs : List X) (k : ℕ) (x : X) → slice_get xs k ≡ Some x → In x xs
in_get [] k x h = absurd cc
in_get (y ∷ xs) zero x h = inl (some_is y x h)
in_get (y ∷ xs) (suc k) x h = inr (in_get xs k x h)

pub member_in : (n : ℕ) (ns : List ℕ) → is_member n ns ≡ true → In n ns
member_in n [] h = absurd cc
member_in n (m ∷ ns) h = elim (or_cases (m == n) (is_member n ns) h) [ inl e ↦ inl (eqb-true m n e) | inr i ↦ inr (member_in n ns i) ]

pub in_member : (n : ℕ) (ns : List ℕ) → In n ns → is_member n ns ≡ true
in_member n [] h = absurd h
in_member n (m ∷ ns) h = elim h [ inl e ↦ or_left (m == n) (is_member n ns) (eq-eqb m n e) | inr i ↦ or_right (m == n) (is_member n ns) (in_member n ns i) ]

pub in_take : {X : Type 0} (k : ℕ) (xs : List X) (x : X) → In x (take k xs) → In x xs
in_take zero [] x h = absurd h
in_take zero (y ∷ xs) x h = absurd h
in_take (suc k) [] x h = absurd h
in_take (suc k) (y ∷ xs) x h = elim h [ inl e ↦ inl e | inr i ↦ inr (in_take k xs x i) ]

pub in_drop : {X : Type 0} (k : ℕ) (xs : List X) (x : X) → In x (drop k xs) → In x xs
in_drop zero xs x h = h
in_drop (suc k) [] x h = absurd h
in_drop (suc k) (y ∷ xs) x h = inr (in_drop k xs x h)

pub filter_in : {X : Type 0} (test : X → Bool) (xs : List X) (x : X) → In x (filter test xs) → In x xs × (test x ≡ true)
filter_in test [] x h = absurd h
filter_in test (y ∷ ys) x h =
    elim (test y) as (λ b. test y ≡ b → In x (cond b (y ∷ filter test ys) (filter test ys)) → In x (y ∷ ys) × (test x ≡ true)) [
      | true ↦ λ e i. elim i [ inl same ↦ (inl same, cc) | inr j ↦ (inr (filter_in test ys x j).0, (filter_in test ys x j).1) ]
      | false ↦ λ e i. (inr (filter_in test ys x i).0, (filter_in test ys x i).1)
    ] refl h

pub in_filter : {X : Type 0} (test : X → Bool) (xs : List X) (x : X) → In x xs → test x ≡ true → In x (filter test xs)
in_filter test [] x h t = absurd h
in_filter test (y ∷ ys) x h t =
    elim (test y) as (λ b. test y ≡ b → In x (cond b (y ∷ filter test ys) (filter test ys))) [
      | true ↦ λ e. elim h [ inl same ↦ inl same | inr i ↦ inr (in_filter test ys x i t) ]
      | false ↦ λ e. elim h [ inl same ↦ absurd (cc) | inr i ↦ in_filter test ys x i t ]
    ] refl

pub in_map : {X Y : Type 0} (f : X → Y) (xs : List X) (y : Y) → In y (map f xs) → (x : X) × In x xs × (f x ≡ y)
in_map f [] y h = absurd h
in_map f (x ∷ xs) y h = elim h [ inl e ↦ (x, inl refl, e) | inr i ↦ let r = in_map f xs y i in (r.0, inr r.1, r.2) ]

pub map_in : {X Y : Type 0} (f : X → Y) (xs : List X) (x : X) → In x xs → In (f x) (map f xs)
map_in f [] x h = absurd h
map_in f (y ∷ xs) x h = elim h [ inl e ↦ inl (ap f e) | inr i ↦ inr (map_in f xs x i) ]

pub in_append : {X : Type 0} (xs ys : List X) (x : X) → In x (xs ++ ys) → In x xs ⊎ In x ys
in_append [] ys x h = inr h
in_append (y ∷ xs) ys x h = elim h [ inl e ↦ inl (inl e) | inr i ↦ elim (in_append xs ys x i) [ inl j ↦ inl (inr j) | inr j ↦ inr j ] ]

pub append_left : {X : Type 0} (xs ys : List X) (x : X) → In x xs → In x (xs ++ ys)
append_left [] ys x h = absurd h
append_left (y ∷ xs) ys x h = elim h [ inl e ↦ inl e | inr i ↦ inr (append_left xs ys x i) ]

pub append_right : {X : Type 0} (xs ys : List X) (x : X) → In x ys → In x (xs ++ ys)
append_right [] ys x h = h
append_right (y ∷ xs) ys x h = inr (append_right xs ys x h)

-- numbers that are all below a bound
pub none_above : (n : ℕ) (fs : List ℕ) → ((f : ℕ) → In f fs → f < n) → list_any (λ f. nat_le n f) fs ≡ false
none_above n [] h = refl
none_above n (f ∷ fs) h = ap (λ (b : Bool). b || list_any (λ g. nat_le n g) fs) (lt-leb n f (h f (inl refl))) ∙ none_above n fs (λ g i. h g (inr i))

pub index_or : {X : Type 0} (xs : List X) (k : ℕ) (x d : X) → slice_get xs k ≡ Some x → slice_index_or xs k d ≡ x
index_or [] k x d h = absurd cc
index_or (y ∷ xs) zero x d h = some_is y x h
index_or (y ∷ xs) (suc k) x d h = index_or xs k x d h

pub get_lt : {X : Type 0} (xs : List X) (k : ℕ) (x : X) → slice_get xs k ≡ Some x → k < length xs
get_lt [] k x h = absurd cc
get_lt (y ∷ xs) zero x h = omega arith
get_lt (y ∷ xs) (suc k) x h = let lt : k < length xs = get_lt xs k x h in omega (arith, lt)

pub of_all : {X : Type 0} (P : X → Type 0) (xs : List X) (k : ℕ) (x : X) → All P xs → slice_get xs k ≡ Some x → P x
of_all P xs k x h at = subst P (index_or xs k x x at) (h k x (get_lt xs k x at))

pub get_in : {X : Type 0} (xs : List X) (x : X) → In x xs → (k : ℕ) × (slice_get xs k ≡ Some x)
get_in [] x h = absurd h
get_in (y ∷ xs) x h = elim h [ inl e ↦ (zero, ap (λ z. Some z) e) | inr i ↦ let r = get_in xs x i in (suc r.0, r.1) ]

pub row_of : {X Y : Type 0} (f : X → Y) (xs : List X) (k : ℕ) (x : X) (d : Y) → slice_get xs k ≡ Some x → get_or (map f xs) k d ≡ f x
row_of f [] k x d h = absurd cc
row_of f (y ∷ xs) zero x d h = ap f (some_is y x h)
row_of f (y ∷ xs) (suc k) x d h = row_of f xs k x d h
