-- Members of lists, and lists of numbers in ascending order.
use Rattle.std.proofs.Common.{◌≡◌, ◌<◌, ◌≤◌, ◌+◌, ◌++◌, ℕ, zero, suc, List, [], ◌∷◌, Some, ◌⊎◌, inl, inr, Bool, true, false, length, refl, ap, sym, subst, arith, cond, ◌∙◌}
use Rattle.std.specs.Prelude.{◌||◌, Contains, filter, flat_map, slice_index}
use Rattle.std.specs.List.{list_any}
use Rattle.std.specs.List.Sorted.{IsStrictlyIncreasing}

-- Contains, by recursion
abbrev pub In : {X : Type 0} → X → List X → Type 0
In x [] = ⊥
In x (y ∷ ys) = (y ≡ x) ⊎ In x ys

-- a member by index is a member by recursion
pub in_list : {X : Type 0} (xs : List X) (x : X) → Contains xs x → In x xs
in_list [] x (k, h, e) = absurd (omega (arith, h))
in_list (y ∷ ys) x (zero, h, e) = inl e
in_list (y ∷ ys) x (suc k, h, e) = inr (in_list ys x (k, omega (arith, h), e))

-- a member by recursion is a member by index
pub contained : {X : Type 0} (xs : List X) (x : X) → In x xs → Contains xs x
contained [] x h = absurd h
contained (y ∷ ys) x h = elim h [ inl e ↦ (0, omega arith, e) | inr i ↦ (suc (contained ys x i).0, omega (arith, (contained ys x i).1), (contained ys x i).2) ]

-- each number is at least n, and less than the next
abbrev pub Rises : ℕ → List ℕ → Type 0
Rises n [] = Unit {0}
Rises n (x ∷ xs) = (n ≤ x) × Rises (x + 1) xs

-- numbers that ascend from a bound ascend from a lower one
pub rises_lower : (m n : ℕ) (xs : List ℕ) → m ≤ n → Rises n xs → Rises m xs
rises_lower m n [] h r = tt
rises_lower m n (x ∷ xs) h r = (omega (arith, h, r.0), r.1)

rises_rest : (x : ℕ) (xs : List ℕ) → IsStrictlyIncreasing (x ∷ xs) → IsStrictlyIncreasing xs
rises_rest x xs r k h =
    let next : suc k + 1 ≡ suc (k + 1) = omega arith in
    subst (λ j. slice_index (x ∷ xs) (suc k) < slice_index (x ∷ xs) j) next (r (suc k) (omega (arith, h)))

-- strictly increasing numbers ascend from the first
pub rises_from : (n : ℕ) (xs : List ℕ) → (0 < length xs → n ≤ slice_index xs 0) → IsStrictlyIncreasing xs → Rises n xs
rises_from n [] low r = tt
rises_from n (x ∷ xs) low r = (low (omega arith), rises_from (x + 1) xs (λ h. let lt : x < slice_index xs 0 = r 0 (omega (arith, h)) in omega (arith, lt)) (rises_rest x xs r))

rises_bound : (n k : ℕ) (xs : List ℕ) → Rises n xs → In k xs → n ≤ k
rises_bound n k [] r h = absurd h
rises_bound n k (x ∷ xs) r h = elim h [ inl e ↦ omega (arith, r.0, e) | inr i ↦ let later : x + 1 ≤ k = rises_bound (x + 1) k xs r.1 i in omega (arith, r.0, later) ]

first_same : (n x y : ℕ) (xs ys : List ℕ) → Rises n (x ∷ xs) → Rises n (y ∷ ys) → In x (y ∷ ys) → In y (x ∷ xs) → x ≡ y
first_same n x y xs ys r s h g =
    elim h [
      | inl e ↦ sym e
      | inr i ↦ let after : y + 1 ≤ x = rises_bound (y + 1) x ys s.1 i in
          elim g [ inl e ↦ e | inr j ↦ let before : x + 1 ≤ y = rises_bound (x + 1) y xs r.1 j in absurd (omega (arith, after, before)) ]
    ]

rest_in : (x y k : ℕ) (xs ys : List ℕ) → x ≡ y → Rises (x + 1) xs → ((m : ℕ) → In m (x ∷ xs) → In m (y ∷ ys)) → In k xs → In k ys
rest_in x y k xs ys e r f i =
    let after : x + 1 ≤ k = rises_bound (x + 1) k xs r i in
    elim (f k (inr i)) [ inl same ↦ absurd (omega (arith, e, same, after)) | inr j ↦ j ]

-- an ascending list is determined by its members
pub same_members : (n : ℕ) (xs ys : List ℕ) → Rises n xs → Rises n ys → ((k : ℕ) → In k xs → In k ys) → ((k : ℕ) → In k ys → In k xs) → xs ≡ ys
same_members n [] [] r s f g = refl
same_members n [] (y ∷ ys) r s f g = absurd (g y (inl refl))
same_members n (x ∷ xs) [] r s f g = absurd (f x (inl refl))
same_members n (x ∷ xs) (y ∷ ys) r s f g =
    let e : x ≡ y = first_same n x y xs ys r s (f x (inl refl)) (g y (inl refl)) in
    let rest : xs ≡ ys = same_members (x + 1) xs ys r.1 (rises_lower (x + 1) (y + 1) ys (omega (arith, e)) s.1)
    (λ k. rest_in x y k xs ys e r.1 f) (λ k. rest_in y x k ys xs (sym e) s.1 g) in
    ap (λ (v : ℕ). v ∷ xs) e ∙ ap (λ (v : List ℕ). y ∷ v) rest

-- if a member passes a test, one of the items does
pub in_any : {X : Type 0} (test : X → Bool) (xs : List X) (x : X) → In x xs → test x ≡ true → list_any test xs ≡ true
in_any test [] x h t = absurd h
in_any test (y ∷ ys) x h t = elim (test y) as (λ b. test y ≡ b → b || list_any test ys ≡ true) [
  | true ↦ λ e. refl
  | false ↦ λ e. elim h [ inl same ↦ absurd (cc) | inr i ↦ in_any test ys x i t ]
] refl

-- equal options have equal values
pub some_is : {X : Type 0} (x y : X) → Some x ≡ Some y → x ≡ y
some_is x y e = cc

-- if one of the items passes a test, a member does
pub any_in : {X : Type 0} (test : X → Bool) (xs : List X) → list_any test xs ≡ true → (x : X) × In x xs × (test x ≡ true)
any_in test [] h = absurd (cc)
any_in {X} test (y ∷ ys) h =
    elim (test y) as (λ b. test y ≡ b → b || list_any test ys ≡ true → (x : X) × In x (y ∷ ys) × (test x ≡ true)) [
      | true ↦ λ e i. (y, inl refl, e)
      | false ↦ λ e i. let rest = any_in test ys i in (rest.0, inr rest.1, rest.2)
    ] refl h

-- a member that passes the test of a filter is kept
pub in_filter : {X : Type 0} (test : X → Bool) (xs : List X) (x : X) → In x xs → test x ≡ true → In x (filter test xs)
in_filter test [] x h t = absurd h
in_filter test (y ∷ ys) x h t =
    elim (test y) as (λ b. test y ≡ b → In x (cond b (y ∷ filter test ys) (filter test ys))) [
      | true ↦ λ e. elim h [ inl same ↦ inl same | inr i ↦ inr (in_filter test ys x i t) ]
      | false ↦ λ e. elim h [ inl same ↦ absurd (cc) | inr i ↦ in_filter test ys x i t ]
    ] refl

-- an item kept by a filter is a member that passes the test
pub filter_in : {X : Type 0} (test : X → Bool) (xs : List X) (x : X) → In x (filter test xs) → In x xs × (test x ≡ true)
filter_in test [] x h = absurd h
filter_in test (y ∷ ys) x h =
    elim (test y) as (λ b. test y ≡ b → In x (cond b (y ∷ filter test ys) (filter test ys)) → In x (y ∷ ys) × (test x ≡ true)) [
      | true ↦ λ e i. elim i [ inl same ↦ (inl same, cc) | inr j ↦ (inr (filter_in test ys x j).0, (filter_in test ys x j).1) ]
      | false ↦ λ e i. (inr (filter_in test ys x i).0, (filter_in test ys x i).1)
    ] refl h

-- a member of two concatenated lists is a member of one of them
pub in_append : {X : Type 0} (xs ys : List X) (x : X) → In x (xs ++ ys) → In x xs ⊎ In x ys
in_append [] ys x h = inr h
in_append (y ∷ xs) ys x h = elim h [ inl e ↦ inl (inl e) | inr i ↦ elim (in_append xs ys x i) [ inl j ↦ inl (inr j) | inr j ↦ inr j ] ]

-- a member of the first list
pub append_left : {X : Type 0} (xs ys : List X) (x : X) → In x xs → In x (xs ++ ys)
append_left [] ys x h = absurd h
append_left (y ∷ xs) ys x h = elim h [ inl e ↦ inl e | inr i ↦ inr (append_left xs ys x i) ]

-- a member of the second list
pub append_right : {X : Type 0} (xs ys : List X) (x : X) → In x ys → In x (xs ++ ys)
append_right [] ys x h = h
append_right (y ∷ xs) ys x h = inr (append_right xs ys x h)

-- a member of concatenated lists is a member of one of them
pub flat_in : {X Y : Type 0} (f : X → List Y) (xs : List X) (y : Y) → In y (flat_map f xs) → (x : X) × In x xs × In y (f x)
flat_in f [] y h = absurd h
flat_in f (x ∷ xs) y h = elim (in_append (f x) (flat_map f xs) y h) [ inl i ↦ (x, inl refl, i) | inr i ↦ let rest = flat_in f xs y i in (rest.0, inr rest.1, rest.2) ]

-- a member of one of the lists is a member of the concatenation
pub in_flat : {X Y : Type 0} (f : X → List Y) (xs : List X) (x : X) (y : Y) → In x xs → In y (f x) → In y (flat_map f xs)
in_flat f [] x y h i = absurd h
in_flat f (z ∷ xs) x y h i = elim h [ inl e ↦ append_left (f z) (flat_map f xs) y (subst (λ v. In y (f v)) (sym e) i) | inr j ↦ append_right (f z) (flat_map f xs) y (in_flat f xs x y j i) ]
