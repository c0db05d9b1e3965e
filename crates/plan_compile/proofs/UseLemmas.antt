-- Items without repetitions have their numbers in the order of first use, and no two are equal.
use Rattle.std.proofs.Common.{◌≡◌, ℕ, zero, suc, ◌+◌, ◌<◌, ◌≤◌, Bool, true, false, List, [], ◌∷◌, ◌++◌, length, map, refl, sym, ap, subst, ◌∙◌, arith, inl, inr}
use Rattle.std.specs.Prelude.{◌≢◌, ◌==◌, ◌||◌, ◌⊎◌, AllPairs, Contains, if◌then◌else◌, slice_index_or}
use Rattle.std.specs.List.{range_with_len}
use Rattle.std.proofs.lemmas.Bool.{eqb-true, eq-eqb}
use Rattle.std.proofs.lemmas.List.Quantifiers.{all_pairs_push}
use Rattle.plan_compile.specs.Numbering.{has, with_item, with_items, once, number}
use Rattle.plan_compile.proofs.ListLemmas.{bool_cases, or_left, or_right, or_false}
use Rattle.plan_compile.proofs.MemberLemmas.{In, contained}
use Rattle.plan_compile.proofs.NumberingLemmas.{Decides, IsKept, items_keep, item_has}

-- whether two numbers are equal
abbrev pub same_number : ℕ → ℕ → Bool
same_number m n = m == n

-- ---- runs of numbers

numbers_more : (a n : ℕ) → range_with_len a n ++ (a + n) ∷ [] ≡ range_with_len a (suc n)
numbers_more a zero = let e : a + zero ≡ a = omega arith in ap (λ (k : ℕ). k ∷ []) e
numbers_more a (suc n) =
    let e : a + suc n ≡ a + 1 + n = omega arith in
    ap (λ (k : ℕ). a ∷ (range_with_len (a + 1) n ++ k ∷ [])) e ∙ ap (λ (ks : List ℕ). a ∷ ks) (numbers_more (a + 1) n)

-- a number in the range is a member, and one after it isn't
numbers_have : (a n k : ℕ) → k < n → has same_number (range_with_len a n) (a + k) ≡ true
numbers_have a zero k h = absurd (omega (arith, h))
numbers_have a (suc n) zero h =
    let e : a + zero ≡ a = omega arith in
    or_left (same_number (a + zero) a) (has same_number (range_with_len (a + 1) n) (a + zero)) (eq-eqb (a + zero) a e)
numbers_have a (suc n) (suc k) h =
    let e : a + 1 + k ≡ a + suc k = omega arith in
    or_right (same_number (a + suc k) a) (has same_number (range_with_len (a + 1) n) (a + suc k))
    (subst (λ (m : ℕ). has same_number (range_with_len (a + 1) n) m ≡ true) e (numbers_have (a + 1) n k (omega (arith, h))))

numbers_end : (a n m : ℕ) → a + n ≤ m → has same_number (range_with_len a n) m ≡ false
numbers_end a zero m h = refl
numbers_end a (suc n) m h =
    elim (bool_cases (same_number m a)) as (λ c. has same_number (range_with_len a (suc n)) m ≡ false) [
      | inl same ↦ let e : m ≡ a = eqb-true m a same in absurd (omega (arith, e, h))
      | inr other ↦ ap (λ (b : Bool). b || has same_number (range_with_len (a + 1) n) m) other ∙ numbers_end (a + 1) n m (omega (arith, h))
    ]

-- ---- members of a list without repetitions

module _ {A : Type 0} (same : A → A → Bool) where
  item_member : (xs : List A) (y x : A) → In x (with_item same xs y) → In x xs ⊎ (y ≡ x)
  item_member xs y x h =
      elim (has same xs y) as (λ b. In x (if b then xs else xs ++ y ∷ []) → In x xs ⊎ (y ≡ x)) [
        | true ↦ λ i. inl i
        | false ↦ λ i. last xs i
      ] h
    where
      last : (zs : List A) → In x (zs ++ y ∷ []) → In x zs ⊎ (y ≡ x)
      last [] i = elim i [ inl e ↦ inr e | inr none ↦ absurd none ]
      last (z ∷ zs) i = elim i [ inl e ↦ inl (inl e) | inr j ↦ elim (last zs j) [ inl k ↦ inl (inr k) | inr e ↦ inr e ] ]

  items_member : (xs ys : List A) (x : A) → In x (with_items same xs ys) → In x xs ⊎ In x ys
  items_member xs [] x h = inl h
  items_member xs (y ∷ ys) x h =
      elim (items_member (with_item same xs y) ys x h) [
        | inl i ↦ elim (item_member xs y x i) [ inl j ↦ inl j | inr e ↦ inr (inl e) ]
        | inr i ↦ inr (inr i)
      ]

  pub once_member : (ys : List A) (x : A) → In x (once same ys) → In x ys
  once_member ys x h = elim (items_member [] ys x h) [ inl none ↦ absurd none | inr i ↦ i ]

numbers_member : (a n k : ℕ) → k < n → In (a + k) (range_with_len a n)
numbers_member a zero k h = absurd (omega (arith, h))
numbers_member a (suc n) zero h = inl (omega arith)
numbers_member a (suc n) (suc k) h =
    let e : a + 1 + k ≡ a + suc k = omega arith in
    inr (subst (λ (m : ℕ). In m (range_with_len (a + 1) n)) e (numbers_member (a + 1) n k (omega (arith, h))))

-- if the numbers of a list, without repetitions, count up, each of them is in the list
pub each_used : (ns : List ℕ) (count n : ℕ) → once same_number ns ≡ range_with_len 0 count → n < count → Contains ns n
each_used ns count n counts h =
    let e : 0 + n ≡ n = omega arith in
    let there : In n (range_with_len 0 count) = subst (λ (m : ℕ). In m (range_with_len 0 count)) e (numbers_member 0 count n h) in
    contained ns n (once_member same_number ns n (subst (λ (ms : List ℕ). In n ms) (sym counts) there))

module _ {A : Type 0} (same : A → A → Bool) (decides : Decides same) where
  number_inside : (x : A) (ys : List A) → has same ys x ≡ true → number same x ys < length ys
  number_inside x [] h = absurd cc
  number_inside x (y ∷ ys) h =
      elim (same x y) as (λ b. (b || has same ys x) ≡ true → (if b then zero else suc (number same x ys)) < suc (length ys))
      [ true ↦ λ g. omega arith | false ↦ λ g. let lt : number same x ys < length ys = number_inside x ys g in omega (arith, lt) ] h

  number_new : (xs : List A) (x : A) → has same xs x ≡ false → number same x (xs ++ x ∷ []) ≡ length xs
  number_new [] x h = ap (λ (b : Bool). if b then zero else suc zero) (decides.self x)
  number_new (y ∷ xs) x h =
      let apart = or_false (same x y) (has same xs x) h in
      ap (λ (b : Bool). if b then zero else suc (number same x (xs ++ x ∷ []))) apart.0 ∙ ap suc (number_new xs x apart.1)

  length_more : (xs : List A) (x : A) → length (xs ++ x ∷ []) ≡ suc (length xs)
  length_more [] x = refl
  length_more (y ∷ xs) x = ap suc (length_more xs x)

  -- an item's number is already there, or is the next one
  number_step : (xs : List A) (y : A)
      → with_item same_number (range_with_len 0 (length xs)) (number same y (with_item same xs y)) ≡ range_with_len 0 (length (with_item same xs y))
  number_step xs y =
      elim (bool_cases (has same xs y)) as (λ c. with_item same_number (range_with_len 0 (length xs)) (number same y (with_item same xs y)) ≡ range_with_len 0 (length (with_item same xs y))) [
        | inl there ↦
            let is : with_item same xs y ≡ xs = ap (λ (b : Bool). if b then xs else xs ++ y ∷ []) there in
            let e : 0 + number same y xs ≡ number same y xs = omega arith in
            let known : has same_number (range_with_len 0 (length xs)) (number same y xs) ≡ true =
            subst (λ (n : ℕ). has same_number (range_with_len 0 (length xs)) n ≡ true) e (numbers_have 0 (length xs) (number same y xs) (number_inside y xs there)) in
            ap (λ (zs : List A). with_item same_number (range_with_len 0 (length xs)) (number same y zs)) is
            ∙ ap (λ (b : Bool). if b then range_with_len 0 (length xs) else range_with_len 0 (length xs) ++ number same y xs ∷ []) known
            ∙ ap (λ (zs : List A). range_with_len 0 (length zs)) (sym is)
        | inr new ↦
            let is : with_item same xs y ≡ xs ++ y ∷ [] = ap (λ (b : Bool). if b then xs else xs ++ y ∷ []) new in
            let unknown : has same_number (range_with_len 0 (length xs)) (length xs) ≡ false = numbers_end 0 (length xs) (length xs) (omega arith) in
            let e : length xs ≡ 0 + length xs = omega arith in
            let next : range_with_len 0 (length xs) ++ length xs ∷ [] ≡ range_with_len 0 (suc (length xs)) =
            ap (λ (n : ℕ). range_with_len 0 (length xs) ++ n ∷ []) e ∙ numbers_more 0 (length xs) in
            ap (λ (zs : List A). with_item same_number (range_with_len 0 (length xs)) (number same y zs)) is
            ∙ ap (λ (n : ℕ). with_item same_number (range_with_len 0 (length xs)) n) (number_new xs y new)
            ∙ ap (λ (b : Bool). if b then range_with_len 0 (length xs) else range_with_len 0 (length xs) ++ length xs ∷ []) unknown
            ∙ next
            ∙ ap (λ (n : ℕ). range_with_len 0 n) (sym (length_more xs y))
            ∙ ap (λ (zs : List A). range_with_len 0 (length zs)) (sym is)
      ]

  numbers_step : (xs ys : List A)
      → with_items same_number (range_with_len 0 (length xs)) (map (λ y. number same y (with_items same xs ys)) ys) ≡ range_with_len 0 (length (with_items same xs ys))
  numbers_step xs [] = refl
  numbers_step xs (y ∷ ys) =
      let next : List A = with_item same xs y in
      let all : List A = with_items same next ys in
      let kept : IsKept same decides next all y = items_keep same decides next ys y (item_has same decides xs y) in
      ap (λ (n : ℕ). with_items same_number (with_item same_number (range_with_len 0 (length xs)) n) (map (λ z. number same z all) ys)) kept.stays
      ∙ ap (λ (ns : List ℕ). with_items same_number ns (map (λ z. number same z all) ys)) (number_step xs y)
      ∙ numbers_step next ys

  -- the numbers of items, without repetitions, count up: each item is used, in the order of first use
  pub numbers_count : (ys : List A) → once same_number (map (λ y. number same y (once same ys)) ys) ≡ range_with_len 0 (length (once same ys))
  numbers_count ys = numbers_step [] ys

  has_get : (xs : List A) (k : ℕ) (d x : A) → k < length xs → slice_index_or xs k d ≡ x → has same xs x ≡ true
  has_get [] k d x lt e = absurd (omega (arith, lt))
  has_get (y ∷ xs) zero d x lt e = or_left (same x y) (has same xs x) (subst (λ (z : A). same x z ≡ true) (sym e) (decides.self x))
  has_get (y ∷ xs) (suc k) d x lt e = or_right (same x y) (has same xs x) (has_get xs k d x (omega (arith, lt)) e)

  apart_item : (xs : List A) (y : A) → AllPairs (λ a b. a ≢ b) xs → AllPairs (λ a b. a ≢ b) (with_item same xs y)
  apart_item xs y h =
      elim (has same xs y) as (λ b. has same xs y ≡ b → AllPairs (λ a c. a ≢ c) (if b then xs else xs ++ y ∷ [])) [
        | true ↦ λ e. h
        | false ↦ λ e. all_pairs_push (λ a c. a ≢ c) xs y h (λ k d lt is. let there : has same xs y ≡ true = has_get xs k d y lt is in absurd cc)
      ] refl

  apart_items : (xs ys : List A) → AllPairs (λ a b. a ≢ b) xs → AllPairs (λ a b. a ≢ b) (with_items same xs ys)
  apart_items xs [] h = h
  apart_items xs (y ∷ ys) h = apart_items (with_item same xs y) ys (apart_item xs y h)

  -- no two items are equal
  pub all_apart : (ys : List A) → AllPairs (λ a b. a ≢ b) (once same ys)
  all_apart ys = apart_items [] ys (λ i j d h g is. omega (arith, g))
