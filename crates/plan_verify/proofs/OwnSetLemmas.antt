-- Sets of an edge's own slots: all own slots are set if and only if the set has as many members.
use Rattle.std.proofs.Common.{◌≡◌, ℕ, suc, ◌+◌, ◌<◌, ◌≤◌, Bool, true, false, cond, eqb, List, [], ◌∷◌, length, drop, Option, Some, None, refl, sym, ap, subst, ◌∙◌, arith, inl, inr}
use Rattle.std.specs.Prelude.{◌&&◌, slice_get}
use Rattle.std.specs.List.{list_all, AllByRecursion}
use Rattle.std.proofs.lemmas.Bool.{cases_eq, cases_lt, eq-eqb, ne_eqb, lt-ltb, le-ltb}
use Rattle.std.proofs.lemmas.List.{length-drop}
use Rattle.std.proofs.lemmas.Option.{slice_get_within}
use Rattle.plan_image.specs.declared.image.Slot.{Slot}
use Rattle.plan_image.specs.declared.image.Parts.{Parts}
use Rattle.plan_image.specs.Spelling.{AscendsFrom}
use Rattle.plan_verify.specs.Members.{is_member, with_member}
use Rattle.plan_verify.specs.Tables.{owned_by, owns, own_from, own_slots}
use Rattle.plan_verify.specs.OwnSet.{IsOwnSet}
use Rattle.plan_verify.proofs.OwnSlotsLemmas.{head_of_rest, tail_of_rest}

-- ---- one more

pub with_ascends : (least n : ℕ) (set : List ℕ) → least ≤ n → AscendsFrom least set → AscendsFrom least (with_member n set)
with_ascends least n [] le up = (le, tt)
with_ascends least n (m ∷ ms) le up =
    elim (cases_lt n m) [
      | inl lt ↦ rw (lt-ltb n m lt) (le, (omega (arith, lt), up.1))
      | inr ge ↦ rw (le-ltb n m ge) (elim (cases_eq n m) [
        | inl same ↦ rw (eq-eqb n m same) up
        | inr differ ↦ rw (ne_eqb n m differ) (up.0, with_ascends (m + 1) n ms (above n m ge differ) up.1)
      ])
    ]
  where
    above : (n m : ℕ) → m ≤ n → (n ≡ m → ⊥) → m + 1 ≤ n
    above n m ge differ =
        elim (cases_lt m n) [
          | inl lt ↦ omega (arith, lt)
          | inr le ↦ absurd (differ (omega (arith, ge, le)))
        ]

pub with_all : (P : ℕ → Type 0) (n : ℕ) (set : List ℕ) → P n → AllByRecursion P set → AllByRecursion P (with_member n set)
with_all P n [] one all = (one, tt)
with_all P n (m ∷ ms) one all =
    elim (cases_lt n m) [
      | inl lt ↦ rw (lt-ltb n m lt) (one, all)
      | inr ge ↦ rw (le-ltb n m ge) (elim (cases_eq n m) [
        | inl same ↦ rw (eq-eqb n m same) all
        | inr differ ↦ rw (ne_eqb n m differ) (all.0, with_all P n ms one all.1)
      ])
    ]

pub with_own : (p : Parts) (e n : ℕ) (set : List ℕ) → owns p e n ≡ true → IsOwnSet p e set → IsOwnSet p e (with_member n set)
with_own p e n set own is = record { ascends = with_ascends 0 n set (omega arith) is.ascends; own = with_all (λ s. owns p e s ≡ true) n set own is.own }

pub none_own : (p : Parts) (e : ℕ) → IsOwnSet p e []
none_own p e = record { ascends = tt; own = tt }

-- ---- all of them

pub below_least : (n least : ℕ) (set : List ℕ) → n < least → AscendsFrom least set → is_member n set ≡ false
below_least n least [] lt up = refl
below_least n least (m ∷ ms) lt up =
    let le = up.0 in
    rw (ne_eqb m n (λ e. omega (arith, e, lt, le))) (below_least n (m + 1) ms (omega (arith, lt, le)) up.1)

-- a member that is less than all tested slots can be left out
skip_head : (e m : ℕ) (ms : List ℕ) (k : ℕ) (slots : List Slot) → m < k → list_all (λ s. is_member s (m ∷ ms)) (own_from e k slots) ≡ list_all (λ s. is_member s ms) (own_from e k slots)
skip_head e m ms k [] lt = refl
skip_head e m ms k (slot ∷ slots) lt = by (eqb slot.owner e) (skip_head e m ms (k + 1) slots (omega (arith, lt)))
  where
    by : (b : Bool) → list_all (λ s. is_member s (m ∷ ms)) (own_from e (k + 1) slots) ≡ list_all (λ s. is_member s ms) (own_from e (k + 1) slots)
        → list_all (λ s. is_member s (m ∷ ms)) (cond b (k ∷ own_from e (k + 1) slots) (own_from e (k + 1) slots)) ≡ list_all (λ s. is_member s ms) (cond b (k ∷ own_from e (k + 1) slots) (own_from e (k + 1) slots))
    by true rest = rw (ne_eqb m k (λ e. omega (arith, e, lt))) (ap (λ (b : Bool). is_member k ms && b) rest)
    by false rest = rest

one_more : (a b : ℕ) → eqb a b ≡ eqb (suc a) (suc b)
one_more a b =
    elim (cases_eq a b) [
      | inl same ↦ rw (eq-eqb a b same, eq-eqb (suc a) (suc b) (ap suc same)) refl
      | inr differ ↦ rw (ne_eqb a b differ, ne_eqb (suc a) (suc b) (λ e. differ (omega (arith, e)))) refl
    ]

module _ (p : Parts) (e : ℕ) where
  abbrev Own : ℕ → Type 0
  Own s = owns p e s ≡ true

  within_by : (m : ℕ) (o : Option Slot) → slice_get p.slots m ≡ o → owned_by e o ≡ true → m < length p.slots
  within_by m None is own = absurd cc
  within_by m (Some slot) is own = slice_get_within p.slots m slot is

  within : (m : ℕ) → Own m → m < length p.slots
  within m own = within_by m (slice_get p.slots m) refl own

  -- beyond the table there is no own slot
  none_past : (n : ℕ) (set : List ℕ) → drop n p.slots ≡ [] → AscendsFrom n set → AllByRecursion Own set → set ≡ []
  none_past n [] is up own = refl
  none_past n (m ∷ ms) is up own =
      let lt = within m own.0 in
      let le = up.0 in
      absurd (omega (arith, lt, le, ap length is, length-drop n p.slots))

  owner_of : (n : ℕ) (slot : Slot) (slots : List Slot) → drop n p.slots ≡ slot ∷ slots → owns p e n ≡ eqb slot.owner e
  owner_of n slot slots is = ap (owned_by e) (head_of_rest n p.slots slot slots is)

  -- the next own slot is the first member, or the members are greater
  above : (n m : ℕ) (ms : List ℕ) → (m ≡ n → ⊥) → AscendsFrom n (m ∷ ms) → AscendsFrom (n + 1) (m ∷ ms)
  above n m ms differ up =
      elim (cases_lt n m) [
        | inl lt ↦ (omega (arith, lt), up.1)
        | inr ge ↦ absurd (differ (let le = up.0 in omega (arith, ge, le)))
      ]

  few_by : (n : ℕ) (b : Bool) (slots : List Slot) (set : List ℕ) → owns p e n ≡ b → AscendsFrom n set → AllByRecursion Own set
      → ((ms : List ℕ) → AscendsFrom (n + 1) ms → AllByRecursion Own ms → length ms ≤ length (own_from e (n + 1) slots))
      → length set ≤ length (cond b (n ∷ own_from e (n + 1) slots) (own_from e (n + 1) slots))
  few_by n b slots [] is up own rest = omega arith
  few_by n true slots (m ∷ ms) is up own rest =
      elim (cases_eq m n) [
        | inl same ↦ let few = rest ms (subst (λ (k : ℕ). AscendsFrom (k + 1) ms) same up.1) own.1 in omega (arith, few)
        | inr differ ↦ let few = rest (m ∷ ms) (above n m ms differ up) own in omega (arith, few)
      ]
  few_by n false slots (m ∷ ms) is up own rest =
      elim (cases_eq m n) [
        | inl same ↦ absurd (let e : true ≡ false = sym own.0 ∙ ap (λ (k : ℕ). owns p e k) same ∙ is in cc)
        | inr differ ↦ rest (m ∷ ms) (above n m ms differ up) own
      ]

  few : (n : ℕ) (slots : List Slot) (set : List ℕ) → drop n p.slots ≡ slots → AscendsFrom n set → AllByRecursion Own set → length set ≤ length (own_from e n slots)
  few n [] set is up own = rw (none_past n set is up own) (omega arith)
  few n (slot ∷ slots) set is up own =
      few_by n (eqb slot.owner e) slots set (owner_of n slot slots is) up own (λ ms u o. few (n + 1) slots ms (tail_of_rest n p.slots slot slots is) u o)

  same_by : (n : ℕ) (b : Bool) (slots : List Slot) (set : List ℕ) → owns p e n ≡ b → drop (n + 1) p.slots ≡ slots → AscendsFrom n set → AllByRecursion Own set
      → ((ms : List ℕ) → AscendsFrom (n + 1) ms → AllByRecursion Own ms → list_all (λ s. is_member s ms) (own_from e (n + 1) slots) ≡ eqb (length ms) (length (own_from e (n + 1) slots)))
      → list_all (λ s. is_member s set) (cond b (n ∷ own_from e (n + 1) slots) (own_from e (n + 1) slots)) ≡ eqb (length set) (length (cond b (n ∷ own_from e (n + 1) slots) (own_from e (n + 1) slots)))
  same_by n true slots [] is next up own rest = sym (ne_eqb 0 (suc (length (own_from e (n + 1) slots))) (λ e. omega (arith, e)))
  same_by n true slots (m ∷ ms) is next up own rest =
      elim (cases_eq m n) [
        | inl same ↦ rw (eq-eqb m n same) (skip_head e m ms (n + 1) slots (omega (arith, same)) ∙ rest ms (subst (λ (k : ℕ). AscendsFrom (k + 1) ms) same up.1) own.1 ∙ one_more (length ms) (length (own_from e (n + 1) slots)))
        | inr differ ↦
            let up' = above n m ms differ up in
            let less = few (n + 1) slots (m ∷ ms) next up' own in
            rw (below_least n (n + 1) (m ∷ ms) (omega arith) up', ne_eqb (suc (length ms)) (suc (length (own_from e (n + 1) slots))) (λ e. omega (arith, e, less))) refl
      ]
  same_by n false slots [] is next up own rest = rest [] tt tt
  same_by n false slots (m ∷ ms) is next up own rest =
      elim (cases_eq m n) [
        | inl same ↦ absurd (let e : true ≡ false = sym own.0 ∙ ap (λ (k : ℕ). owns p e k) same ∙ is in cc)
        | inr differ ↦ rest (m ∷ ms) (above n m ms differ up) own
      ]

  same_len : (n : ℕ) (slots : List Slot) (set : List ℕ) → drop n p.slots ≡ slots → AscendsFrom n set → AllByRecursion Own set → list_all (λ s. is_member s set) (own_from e n slots) ≡ eqb (length set) (length (own_from e n slots))
  same_len n [] set is up own = rw (none_past n set is up own) refl
  same_len n (slot ∷ slots) set is up own =
      let next = tail_of_rest n p.slots slot slots is in
      same_by n (eqb slot.owner e) slots set (owner_of n slot slots is) next up own (λ ms u o. same_len (n + 1) slots ms next u o)

-- all own slots are in a set of own slots if and only if the set has as many members
pub all_set : (p : Parts) (e : ℕ) (set : List ℕ) → IsOwnSet p e set → list_all (λ s. is_member s set) (own_slots p e) ≡ eqb (length set) (length (own_slots p e))
all_set p e set is = same_len p e 0 p.slots set refl is.ascends is.own
