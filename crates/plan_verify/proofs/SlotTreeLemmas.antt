-- Two lists of ascending numbers, one after the other: membership and insertion. Lemmas for src/slot_tree.rt.
use Rattle.std.proofs.Common.{◌≡◌, ℕ, zero, suc, ◌+◌, ◌<◌, ◌≤◌, Bool, true, false, eqb, List, [], ◌∷◌, ◌++◌, length, take, drop, refl, sym, ap, subst, ◌∙◌, arith, inl, inr}
use Rattle.std.specs.Prelude.{◌&&◌, ◌||◌, nat_lt}
use Rattle.std.specs.List.{list_all, prefix_len}
use Rattle.std.specs.Bool.{IsTrue}
use Rattle.std.proofs.lemmas.Bool.{cases_eq, cases_lt, eqb-true, eq-eqb, ne_eqb, lt-ltb, le-ltb}
use Rattle.std.specs.declared.sync.Arc.{Arc}
use Rattle.std.specs.declared.alloc.Global.{Global}
use Rattle.plan_image.specs.Spelling.{AscendsFrom}
use Rattle.plan_verify.specs.Members.{is_member, with_member}
use Rattle.plan_verify.specs.declared.slot_tree.SlotTree.{SlotTree}
use Rattle.plan_verify.specs.declared.slot_tree.SlotTree.TheVariants.{Few, Fork, Fork'}
use Rattle.plan_verify.specs.SlotTree.{numbers, AllBelow, IsParted}
use Rattle.plan_verify.proofs.OwnSetLemmas.{below_least, with_all}

-- ---- ascending

weaken : (n m : ℕ) (xs : List ℕ) → n ≤ m → AscendsFrom m xs → AscendsFrom n xs
weaken n m [] le up = tt
weaken n m (x ∷ xs) le up = let first = up.0 in (omega (arith, le, first), up.1)

pub join_ascends : (n m : ℕ) (xs ys : List ℕ) → n ≤ m → AscendsFrom n xs → AllBelow m xs → AscendsFrom m ys → AscendsFrom n (xs ++ ys)
join_ascends n m [] ys le up below above = weaken n m ys le above
join_ascends n m (x ∷ xs) ys le up below above = let first = below.0 in (up.0, join_ascends (x + 1) m xs ys (omega (arith, first)) up.1 below.1 above)

pub below_with : (m n : ℕ) (xs : List ℕ) → n < m → AllBelow m xs → AllBelow m (with_member n xs)
below_with m n xs lt below = with_all (λ k. k < m) n xs lt below

-- the numbers below a number come first
pub cut_low : (m : ℕ) (xs : List ℕ) → AllBelow m (take (prefix_len (λ n. nat_lt n m) xs) xs)
cut_low m [] = tt
cut_low m (x ∷ xs) =
    elim (cases_lt x m) [
      | inl lt ↦ let next : 1 + prefix_len (λ n. nat_lt n m) xs ≡ suc (prefix_len (λ n. nat_lt n m) xs) = omega arith in rw (lt-ltb x m lt, next) (lt, cut_low m xs)
      | inr ge ↦ rw (le-ltb x m ge) tt
    ]

pub cut_high : (n m : ℕ) (xs : List ℕ) → AscendsFrom n xs → AscendsFrom m (drop (prefix_len (λ n. nat_lt n m) xs) xs)
cut_high n m [] up = tt
cut_high n m (x ∷ xs) up =
    elim (cases_lt x m) [
      | inl lt ↦ let next : 1 + prefix_len (λ n. nat_lt n m) xs ≡ suc (prefix_len (λ n. nat_lt n m) xs) = omega arith in rw (lt-ltb x m lt, next) (cut_high (x + 1) m xs up.1)
      | inr ge ↦ rw (le-ltb x m ge) (ge, up.1)
    ]

pub front_ascends : (n k : ℕ) (xs : List ℕ) → AscendsFrom n xs → AscendsFrom n (take k xs)
front_ascends n zero xs up = tt
front_ascends n (suc k) [] up = tt
front_ascends n (suc k) (x ∷ xs) up = (up.0, front_ascends (x + 1) k xs up.1)

pub from_zero : (m : ℕ) (xs : List ℕ) → AscendsFrom m xs → AscendsFrom 0 xs
from_zero m xs up = weaken 0 m xs (omega arith) up

-- the numbers of a tree ascend
pub ascends : (t : SlotTree) → IsParted t → AscendsFrom 0 (numbers t)
ascends (Few held) is = is
ascends (Fork' p low middle q high len) is = join_ascends 0 middle (numbers low) (numbers high) (omega arith) (ascends low is.0) is.2 is.3

-- ---- one more

pub with_left : (m n : ℕ) (xs ys : List ℕ) → n < m → AscendsFrom m ys → with_member n (xs ++ ys) ≡ with_member n xs ++ ys
with_left m n [] [] lt up = refl
with_left m n [] (y ∷ ys) lt up = let le = up.0 in rw (lt-ltb n y (omega (arith, lt, le))) refl
with_left m n (x ∷ xs) ys lt up =
    elim (cases_lt n x) [
      | inl less ↦ rw (lt-ltb n x less) refl
      | inr ge ↦ rw (le-ltb n x ge) (elim (cases_eq n x) [
        | inl same ↦ rw (eq-eqb n x same) refl
        | inr differ ↦ rw (ne_eqb n x differ) (ap (λ (zs : List ℕ). x ∷ zs) (with_left m n xs ys lt up))
      ])
    ]

pub with_right : (m n : ℕ) (xs ys : List ℕ) → m ≤ n → AllBelow m xs → with_member n (xs ++ ys) ≡ xs ++ with_member n ys
with_right m n [] ys le below = refl
with_right m n (x ∷ xs) ys le below =
    let first = below.0 in
    rw (le-ltb n x (omega (arith, le, first)), ne_eqb n x (λ e. omega (arith, e, le, first))) (ap (λ (zs : List ℕ). x ∷ zs) (with_right m n xs ys le below.1))

-- ---- members

pub member_left : (m n : ℕ) (xs ys : List ℕ) → n < m → AscendsFrom m ys → is_member n (xs ++ ys) ≡ is_member n xs
member_left m n [] ys lt up = below_least n m ys lt up
member_left m n (x ∷ xs) ys lt up = ap (λ (b : Bool). eqb x n || b) (member_left m n xs ys lt up)

pub member_right : (m n : ℕ) (xs ys : List ℕ) → m ≤ n → AllBelow m xs → is_member n (xs ++ ys) ≡ is_member n ys
member_right m n [] ys le below = refl
member_right m n (x ∷ xs) ys le below = let first = below.0 in rw (ne_eqb x n (λ e. omega (arith, e, le, first))) (member_right m n xs ys le below.1)

-- ---- the same

-- lists that are split at the same number
pub same_parts : (m : ℕ) (xs ys us vs : List ℕ) → AllBelow m xs → AscendsFrom m ys → AllBelow m us → AscendsFrom m vs → xs ++ ys ≡ us ++ vs → (xs ≡ us) × (ys ≡ vs)
same_parts m [] ys [] vs bx ay bu av e = (refl, e)
same_parts m [] [] (u ∷ us) vs bx ay bu av e = absurd cc
same_parts m [] (y ∷ ys) (u ∷ us) vs bx ay bu av e = let same : y ≡ u = cc in let low = bu.0 in let high = ay.0 in absurd (omega (arith, same, low, high))
same_parts m (x ∷ xs) ys [] [] bx ay bu av e = absurd cc
same_parts m (x ∷ xs) ys [] (v ∷ vs) bx ay bu av e = let same : x ≡ v = cc in let low = bx.0 in let high = av.0 in absurd (omega (arith, same, low, high))
same_parts m (x ∷ xs) ys (u ∷ us) vs bx ay bu av e =
    let first : x ≡ u = cc in
    let rest : xs ++ ys ≡ us ++ vs = cc in
    let p = same_parts m xs ys us vs bx.1 ay bu.1 av rest in
    ((let front = p.0 in cc), p.1)

and_left : (a b : Bool) → (a && b) ≡ true → a ≡ true
and_left true b h = refl
and_left false b h = h

and_right : (a b : Bool) → (a && b) ≡ true → b ≡ true
and_right true b h = h
and_right false b h = absurd cc

-- a member that is less than all tested numbers can be left out
skip : (y least : ℕ) (ys ks : List ℕ) → y < least → AscendsFrom least ks → list_all (λ a. is_member a (y ∷ ys)) ks ≡ list_all (λ a. is_member a ys) ks
skip y least ys [] lt up = refl
skip y least ys (a ∷ ks) lt up =
    let first = up.0 in
    rw (ne_eqb y a (λ e. omega (arith, e, lt, first))) (ap (λ (b : Bool). is_member a ys && b) (skip y (a + 1) ys ks (omega (arith, lt, first)) up.1))

-- ascending numbers that are all in another list are not more than its numbers, and are the same if they are as
-- many
pub among : (n : ℕ) (ks bs : List ℕ) → AscendsFrom n ks → AscendsFrom n bs → list_all (λ a. is_member a bs) ks ≡ true → (length ks ≤ length bs) × (length ks ≡ length bs → ks ≡ bs)
among n [] [] ua ub all = (omega arith, λ e. refl)
among n (a ∷ ks) [] ua ub all = absurd cc
among n [] (b ∷ bs) ua ub all = (omega arith, λ e. absurd (omega (arith, e)))
among n (a ∷ ks) (b ∷ bs) ua ub all =
    elim (cases_eq b a) [
      | inl same ↦
          let tail = and_right (is_member a (b ∷ bs)) (list_all (λ s. is_member s (b ∷ bs)) ks) all in
          let up = subst (λ (k : ℕ). AscendsFrom (k + 1) ks) (sym same) ua.1 in
          let rest = among (b + 1) ks bs up ub.1 (sym (skip b (b + 1) bs ks (omega arith) up) ∙ tail) in
          let few = rest.0 in
          (omega (arith, few), λ e. let back : ks ≡ bs = rest.1 (omega (arith, e)) in cc)
      | inr differ ↦ elim (cases_lt a b) [
        | inl lt ↦
            let head = and_left (is_member a (b ∷ bs)) (list_all (λ s. is_member s (b ∷ bs)) ks) all in
            let none = below_least a b (b ∷ bs) lt (omega arith, ub.1) in
            absurd (let e : true ≡ false = sym head ∙ none in cc)
        | inr ge ↦
            let more : b + 1 ≤ a = above a b ge differ in
            let rest = among (b + 1) (a ∷ ks) bs (more, ua.1) ub.1 (sym (skip b (b + 1) bs (a ∷ ks) (omega arith) (more, ua.1)) ∙ all) in
            let few = rest.0 in
            (omega (arith, few), λ e. absurd (omega (arith, e, few)))
      ]
    ]
  where
    above : (a b : ℕ) → b ≤ a → (b ≡ a → ⊥) → b + 1 ≤ a
    above a b ge differ =
        elim (cases_lt b a) [
          | inl lt ↦ omega (arith, lt)
          | inr le ↦ absurd (differ (omega (arith, ge, le)))
        ]

all_members : (test : ℕ → Bool) (xs : List ℕ) → ((x : ℕ) → is_member x xs ≡ true → test x ≡ true) → list_all test xs ≡ true
all_members test [] h = refl
all_members test (x ∷ xs) h =
    rw (h x (rw (eq-eqb x x refl) refl)) (all_members test xs (λ y m. h y (or_true (eqb x y) (is_member y xs) m)))
  where
    or_true : (a b : Bool) → b ≡ true → (a || b) ≡ true
    or_true true b e = refl
    or_true false b e = e

pub all_among : (xs : List ℕ) → list_all (λ x. is_member x xs) xs ≡ true
all_among xs = all_members (λ x. is_member x xs) xs (λ x m. m)

-- as many numbers, all of which are in the other list
pub same_set : (xs ys : List ℕ) (a b : ℕ) (w : Bool) → AscendsFrom 0 xs → AscendsFrom 0 ys → a ≡ length xs → b ≡ length ys → w ≡ list_all (λ n. is_member n ys) xs
    → (IsTrue (eqb a b && w) → xs ≡ ys) × (xs ≡ ys → IsTrue (eqb a b && w))
same_set xs ys a b w ux uy ea eb ew = (forth, back)
  where
    forth : IsTrue (eqb a b && w) → xs ≡ ys
    forth h =
        let long : a ≡ b = eqb-true a b (and_left (eqb a b) w h) in
        (among 0 xs ys ux uy (sym ew ∙ and_right (eqb a b) w h)).1 (sym ea ∙ long ∙ eb)

    back : xs ≡ ys → IsTrue (eqb a b && w)
    back e =
        let all = subst (λ (zs : List ℕ). list_all (λ n. is_member n zs) xs ≡ true) e (all_among xs) in
        rw (eq-eqb a b (ea ∙ (ap length e ∙ sym eb)), ew ∙ all) refl

-- ---- a fork

-- the facts about a tree that is a fork
pub record AtFork (t : SlotTree) (low : List ℕ) (m : ℕ) (high : List ℕ) : Type 0 where
  pub is : numbers t ≡ low ++ high
  pub below : AllBelow m low
  pub above : AscendsFrom m high

pub at_fork : {t : SlotTree} {low high : Arc SlotTree Global} {m len : ℕ} → IsParted t → t ≡ Fork low m high len → AtFork t (numbers low.value) m (numbers high.value)
at_fork {t} {low} {high} {m} {len} parted is =
    let p : IsParted (Fork low m high len) = subst IsParted is parted in
    record { is = ap numbers is; below = p.2; above = p.3 }

-- two forks at one number are the same if both parts are
pub same_forks : {t u a b x y : SlotTree} {low high other_low other_high : Arc SlotTree Global} {m n len k : ℕ} (r s : Bool)
    → IsParted t → IsParted u → t ≡ Fork low m high len → u ≡ Fork other_low n other_high k → m ≡ n
    → a ≡ low.value → b ≡ other_low.value → x ≡ high.value → y ≡ other_high.value
    → (IsTrue r → numbers a ≡ numbers b) × (numbers a ≡ numbers b → IsTrue r) → (IsTrue s → numbers x ≡ numbers y) × (numbers x ≡ numbers y → IsTrue s)
    → (IsTrue (r && s) → numbers t ≡ numbers u) × (numbers t ≡ numbers u → IsTrue (r && s))
same_forks {t} {u} {a} {b} {x} {y} {low} {high} {other_low} {other_high} {m} {n} {len} {k} r s it iu et eu at_one ea eb ex ey first second = (forth, back)
  where
    f : AtFork t (numbers low.value) m (numbers high.value)
    f = at_fork it et

    g : AtFork u (numbers other_low.value) n (numbers other_high.value)
    g = at_fork iu eu

    forth : IsTrue (r && s) → numbers t ≡ numbers u
    forth h =
        let lows : numbers low.value ≡ numbers other_low.value = sym (ap numbers ea) ∙ first.0 (and_left r s h) ∙ ap numbers eb in
        let highs : numbers high.value ≡ numbers other_high.value = sym (ap numbers ex) ∙ second.0 (and_right r s h) ∙ ap numbers ey in
        f.is ∙ ap (λ (xs : List ℕ). xs ++ numbers high.value) lows ∙ ap (λ (xs : List ℕ). numbers other_low.value ++ xs) highs ∙ sym g.is

    back : numbers t ≡ numbers u → IsTrue (r && s)
    back e =
        let p = same_parts m (numbers low.value) (numbers high.value) (numbers other_low.value) (numbers other_high.value) f.below f.above
        (subst (λ (i : ℕ). AllBelow i (numbers other_low.value)) (sym at_one) g.below) (subst (λ (i : ℕ). AscendsFrom i (numbers other_high.value)) (sym at_one) g.above) (sym f.is ∙ e ∙ g.is) in
        let lows : r ≡ true = first.1 (ap numbers ea ∙ p.0 ∙ sym (ap numbers eb)) in
        let highs : s ≡ true = second.1 (ap numbers ex ∙ p.1 ∙ sym (ap numbers ey)) in
        rw (lows, highs) refl
