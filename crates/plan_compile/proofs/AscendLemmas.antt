-- Numbers in ascending order, without repetitions.
use Rattle.std.proofs.Common.{◌≡◌, ◌<◌, ◌≤◌, ◌+◌, ℕ, zero, suc, Bool, true, false, List, [], ◌∷◌, length, get_or, refl, sym, ap, subst, ◌∙◌, arith, inl, inr}
use Rattle.std.specs.Prelude.{◌||◌, ◌==◌, nat_lt, Contains, slice_index, if◌then◌else◌}
use Rattle.std.specs.List.Sorted.{IsStrictlyIncreasing}
use Rattle.std.proofs.lemmas.Bool.{eq-eqb, ne_eqb, ltb-true, ltb-false}
use Rattle.plan_image.specs.Spelling.{AscendsFrom}
use Rattle.plan_verify.specs.Members.{is_member, with_member}
use Rattle.plan_compile.specs.declared.layout.Input.{Input}
use Rattle.plan_compile.specs.declared.layout.Input.TheVariants.{File, Made}
use Rattle.plan_compile.specs.Means.{flags_of}
use Rattle.plan_compile.specs.Slots.{members_from, flags_from}
use Rattle.plan_compile.proofs.ListLemmas.{bool_cases}
use Rattle.plan_compile.proofs.MemberLemmas.{In, in_list, contained, member_in, in_member}
use Rattle.plan_compile.proofs.LayoutLemmas.{with_member_has}

-- numbers that ascend from a bound ascend from a lower one
pub rises_lower : (m n : ℕ) (xs : List ℕ) → m ≤ n → AscendsFrom n xs → AscendsFrom m xs
rises_lower m n [] h r = tt
rises_lower m n (x ∷ xs) h r = (omega (arith, h, r.0), r.1)

rises_rest : (x : ℕ) (xs : List ℕ) → IsStrictlyIncreasing (x ∷ xs) → IsStrictlyIncreasing xs
rises_rest x xs r k h =
    let next : suc k + 1 ≡ suc (k + 1) = omega arith in
    subst (λ j. slice_index (x ∷ xs) (suc k) < slice_index (x ∷ xs) j) next (r (suc k) (omega (arith, h)))

-- strictly increasing numbers ascend from the first
pub rises_from : (n : ℕ) (xs : List ℕ) → (0 < length xs → n ≤ slice_index xs 0) → IsStrictlyIncreasing xs → AscendsFrom n xs
rises_from n [] low r = tt
rises_from n (x ∷ xs) low r = (low (omega arith), rises_from (x + 1) xs (λ h. let lt : x < slice_index xs 0 = r 0 (omega (arith, h)) in omega (arith, lt)) (rises_rest x xs r))

rises_bound : (n k : ℕ) (xs : List ℕ) → AscendsFrom n xs → In k xs → n ≤ k
rises_bound n k [] r h = absurd h
rises_bound n k (x ∷ xs) r h = elim h [ inl e ↦ omega (arith, r.0, e) | inr i ↦ let later : x + 1 ≤ k = rises_bound (x + 1) k xs r.1 i in omega (arith, r.0, later) ]

first_same : (n x y : ℕ) (xs ys : List ℕ) → AscendsFrom n (x ∷ xs) → AscendsFrom n (y ∷ ys) → In x (y ∷ ys) → In y (x ∷ xs) → x ≡ y
first_same n x y xs ys r s h g =
    elim h [
      | inl e ↦ sym e
      | inr i ↦ let after : y + 1 ≤ x = rises_bound (y + 1) x ys s.1 i in
          elim g [ inl e ↦ e | inr j ↦ let before : x + 1 ≤ y = rises_bound (x + 1) y xs r.1 j in absurd (omega (arith, after, before)) ]
    ]

rest_in : (x y k : ℕ) (xs ys : List ℕ) → x ≡ y → AscendsFrom (x + 1) xs → ((m : ℕ) → In m (x ∷ xs) → In m (y ∷ ys)) → In k xs → In k ys
rest_in x y k xs ys e r f i =
    let after : x + 1 ≤ k = rises_bound (x + 1) k xs r i in
    elim (f k (inr i)) [ inl same ↦ absurd (omega (arith, e, same, after)) | inr j ↦ j ]

-- an ascending list is determined by its members
pub same_members : (n : ℕ) (xs ys : List ℕ) → AscendsFrom n xs → AscendsFrom n ys → ((k : ℕ) → In k xs → In k ys) → ((k : ℕ) → In k ys → In k xs) → xs ≡ ys
same_members n [] [] r s f g = refl
same_members n [] (y ∷ ys) r s f g = absurd (g y (inl refl))
same_members n (x ∷ xs) [] r s f g = absurd (f x (inl refl))
same_members n (x ∷ xs) (y ∷ ys) r s f g =
    let e : x ≡ y = first_same n x y xs ys r s (f x (inl refl)) (g y (inl refl)) in
    let rest : xs ≡ ys = same_members (x + 1) xs ys r.1 (rises_lower (x + 1) (y + 1) ys (omega (arith, e)) s.1)
    (λ k. rest_in x y k xs ys e r.1 f) (λ k. rest_in y x k ys xs (sym e) s.1 g) in
    ap (λ (v : ℕ). v ∷ xs) e ∙ ap (λ (v : List ℕ). y ∷ v) rest

-- ---- with one more member

with_ascends : (least n : ℕ) (ms : List ℕ) → least ≤ n → AscendsFrom least ms → AscendsFrom least (with_member n ms)
with_ascends least n [] le up = (le, tt)
with_ascends least n (m ∷ ms) le up =
    elim (bool_cases (nat_lt n m)) as (λ c. AscendsFrom least (if nat_lt n m then n ∷ m ∷ ms else if n == m then m ∷ ms else m ∷ with_member n ms)) [
      | inl less ↦
          let lt : n < m = ltb-true n m less in
          subst (λ (b : Bool). AscendsFrom least (if b then n ∷ m ∷ ms else if n == m then m ∷ ms else m ∷ with_member n ms)) (sym less) (le, (omega (arith, lt), up.1))
      | inr more ↦
          subst (λ (b : Bool). AscendsFrom least (if b then n ∷ m ∷ ms else if n == m then m ∷ ms else m ∷ with_member n ms)) (sym more)
          (elim (bool_cases (n == m)) as (λ c. AscendsFrom least (if n == m then m ∷ ms else m ∷ with_member n ms)) [
            | inl same ↦ subst (λ (b : Bool). AscendsFrom least (if b then m ∷ ms else m ∷ with_member n ms)) (sym same) up
            | inr other ↦
                let past : m ≤ n = ltb-false n m more in
                let apart : n ≡ m → ⊥ = λ e. let clash : (n == m) ≡ true = eq-eqb n m e in absurd (let both : true ≡ false = sym clash ∙ other in cc) in
                subst (λ (b : Bool). AscendsFrom least (if b then m ∷ ms else m ∷ with_member n ms)) (sym other) (up.0, with_ascends (m + 1) n ms (strict past apart) up.1)
          ])
    ]
  where
    strict : m ≤ n → (n ≡ m → ⊥) → m + 1 ≤ n
    strict past apart = below_or m n past apart
      where
        below_or : (a b : ℕ) → a ≤ b → (b ≡ a → ⊥) → a + 1 ≤ b
        below_or a b l h = omega (arith, l, h)

pub members_ascend : (ms ns : List ℕ) → AscendsFrom 0 ms → AscendsFrom 0 (members_from ms ns)
members_ascend ms [] up = up
members_ascend ms (n ∷ ns) up = members_ascend (with_member n ms) ns (with_ascends 0 n ms (omega arith) up)

or_move : (a b c : Bool) → ((b || a) || c) ≡ (a || (b || c))
or_move true true c = refl
or_move true false c = refl
or_move false true c = refl
or_move false false c = refl

or_none : (a : Bool) → (a || false) ≡ a
or_none true = refl
or_none false = refl

-- the members are those that were there, and those that were added
pub members_are : (s : ℕ) (ms ns : List ℕ) → is_member s (members_from ms ns) ≡ (is_member s ms || is_member s ns)
members_are s ms [] = sym (or_none (is_member s ms))
members_are s ms (n ∷ ns) =
    members_are s (with_member n ms) ns ∙ ap (λ (b : Bool). b || is_member s ns) (with_member_has s n ms) ∙ or_move (is_member s ms) (n == s) (is_member s ns)

pub flags_members : (flags : List ℕ) (is : List Input) → flags_from flags is ≡ members_from flags (flags_of is)
flags_members flags [] = refl
flags_members flags (File f ∷ is) = flags_members flags is
flags_members flags (Made stamp changed ∷ is) = flags_members (with_member changed flags) is

-- an ascending row with the same members is the list of these members
pub ascending_is : (ns row : List ℕ) → IsStrictlyIncreasing row → ((n : ℕ) → Contains ns n → Contains row n) → ((n : ℕ) → Contains row n → Contains ns n) → row ≡ members_from [] ns
ascending_is ns row order kept given =
    same_members 0 row (members_from [] ns) (rises_from 0 row (λ h. omega arith) order) (members_ascend [] ns tt)
    (λ k i. member_in k (members_from [] ns) (members_are k [] ns ∙ in_member k ns (in_list ns k (given k (contained row k i)))))
    (λ k i. in_list row k (kept k (contained ns k (member_in k ns (sym (members_are k [] ns) ∙ in_member k (members_from [] ns) i)))))

-- ---- a number found by halves

above_least : (least : ℕ) (xs : List ℕ) (j : ℕ) → AscendsFrom least xs → j < length xs → least ≤ get_or xs j 0
above_least least [] j up lt = absurd (omega arith)
above_least least (x ∷ xs) zero up lt = up.0
above_least least (x ∷ xs) (suc j) up lt = let rest = above_least (x + 1) xs j up.1 (omega arith) in let first = up.0 in omega (arith, rest, first)

-- a later number is not less
pub rises : (least : ℕ) (xs : List ℕ) → AscendsFrom least xs → (i j : ℕ) → i ≤ j → j < length xs → get_or xs i 0 ≤ get_or xs j 0
rises least [] up i j le lt = absurd (omega arith)
rises least (x ∷ xs) up zero zero le lt = omega arith
rises least (x ∷ xs) up zero (suc j) le lt = let rest = above_least (x + 1) xs j up.1 (omega arith) in omega (arith, rest)
rises least (x ∷ xs) up (suc i) zero le lt = absurd (omega arith)
rises least (x ∷ xs) up (suc i) (suc j) le lt = rises (x + 1) xs up.1 i j (omega arith) (omega arith)

-- a number is no member if those before a place are less and those after it are greater
pub not_member_at : (n : ℕ) (xs : List ℕ) (at : ℕ) → ((k : ℕ) → k < at → get_or xs k 0 < n) → ((k : ℕ) → at ≤ k → k < length xs → n < get_or xs k 0) → is_member n xs ≡ false
not_member_at n [] at low high = refl
not_member_at n (x ∷ xs) zero low high =
    let above = high 0 (omega arith) (omega arith) in
    rw (ne_eqb x n (λ e. omega (arith, e, above))) (not_member_at n xs zero (λ k lt. absurd (omega arith)) (λ k le lt. high (suc k) (omega arith) (omega arith)))
not_member_at n (x ∷ xs) (suc at) low high =
    let below = low 0 (omega arith) in
    rw (ne_eqb x n (λ e. omega (arith, e, below))) (not_member_at n xs at (λ k lt. low (suc k) (omega arith)) (λ k le lt. high (suc k) (omega arith) (omega arith)))
