-- The slots of an edge are consecutive numbers.
use Rattle.std.proofs.Common.{◌≡◌, ℕ, zero, suc, ◌+◌, Bool, true, false, List, [], ◌∷◌, ◌++◌, length, Some, refl, sym, ap, subst, ◌∙◌, arith, inl, inr}
use Rattle.std.specs.Prelude.{◌||◌, ◌&&◌, ◌==◌, slice_get, if◌then◌else◌}
use Rattle.std.specs.List.{list_all, list_any}
use Rattle.std.proofs.lemmas.Bool.{eqb-true}
use Rattle.plan_image.specs.declared.body.Kind.{Kind}
use Rattle.plan_image.specs.declared.image.Slot.{Slot}
use Rattle.plan_verify.specs.Tables.{own_from}
use Rattle.plan_compile.specs.Builds.{Build}
use Rattle.plan_compile.specs.Slots.{own_kinds, own_len, owned, slots_from, base}
use Rattle.plan_compile.proofs.ListLemmas.{some_is, bool_cases, get_front, get_past, get_split}

-- ---- one run

pub owned_length : (e : ℕ) (ks : List Kind) → length (owned e ks) ≡ length ks
owned_length e [] = refl
owned_length e (k ∷ ks) = ap suc (owned_length e ks)

pub owned_at : (e : ℕ) (ks : List Kind) (i : ℕ) (k : Kind) → slice_get ks i ≡ Some k → slice_get (owned e ks) i ≡ Some (record { owner = e; kind = k })
owned_at e [] i k h = absurd cc
owned_at e (z ∷ ks) zero k h = ap (λ (y : Kind). Some (record { owner = e; kind = y })) (some_is z k h)
owned_at e (z ∷ ks) (suc i) k h = owned_at e ks i k h

pub owned_is : (e : ℕ) (ks : List Kind) (i : ℕ) (s : Slot) → slice_get (owned e ks) i ≡ Some s → (s.owner ≡ e) × (slice_get ks i ≡ Some s.kind)
owned_is e [] i s h = absurd cc
owned_is e (z ∷ ks) zero s h =
    let same : record { owner = e; kind = z } ≡ s = some_is (record { owner = e; kind = z }) s h in
    (ap (λ (x : Slot). x.owner) (sym same), ap (λ (x : Slot). Some x.kind) same)
owned_is e (z ∷ ks) (suc i) s h = owned_is e ks i s h

-- ---- all runs, beginning with that of edge d

pub slot_at : (d : ℕ) (xs : List Build) (e : ℕ) (x : Build) → slice_get xs e ≡ Some x → (i : ℕ) (k : Kind) → slice_get (own_kinds x) i ≡ Some k
    → slice_get (slots_from d xs) (base xs e + i) ≡ Some (record { owner = d + e; kind = k })
slot_at d [] e x h i k g = absurd cc
slot_at d (y ∷ xs) zero x h i k g =
    let mine : slice_get (own_kinds y) i ≡ Some k = ap (λ (z : Build). slice_get (own_kinds z) i) (some_is y x h) ∙ g in
    ap (λ (n : ℕ). slice_get (owned d (own_kinds y) ++ slots_from (suc d) xs) n) (omega arith)
    ∙ get_front (owned d (own_kinds y)) (slots_from (suc d) xs) i (record { owner = d; kind = k }) (owned_at d (own_kinds y) i k mine)
    ∙ ap (λ (n : ℕ). Some (record { owner = n; kind = k })) (omega arith)
slot_at d (y ∷ xs) (suc e) x h i k g =
    let long : length (owned d (own_kinds y)) ≡ own_len y = owned_length d (own_kinds y) in
    let place : own_len y + base xs e + i ≡ length (owned d (own_kinds y)) + (base xs e + i) = omega (arith, long) in
    let owner : suc d + e ≡ d + suc e = omega arith in
    ap (λ (n : ℕ). slice_get (owned d (own_kinds y) ++ slots_from (suc d) xs) n) place
    ∙ get_past (owned d (own_kinds y)) (slots_from (suc d) xs) (base xs e + i)
    ∙ slot_at (suc d) xs e x h i k g
    ∙ ap (λ (n : ℕ). Some (record { owner = n; kind = k })) owner

-- a slot is among those of its owner
pub record IsSlotOf (d : ℕ) (xs : List Build) (j : ℕ) (s : Slot) : Type 0 where
  pub edge : ℕ
  pub source : Build
  pub place : ℕ
  pub here : slice_get xs edge ≡ Some source
  pub stands : j ≡ base xs edge + place
  pub kind : slice_get (own_kinds source) place ≡ Some s.kind
  pub owner : s.owner ≡ d + edge

pub slot_of : (d : ℕ) (xs : List Build) (j : ℕ) (s : Slot) → slice_get (slots_from d xs) j ≡ Some s → IsSlotOf d xs j s
slot_of d [] j s h = absurd cc
slot_of d (y ∷ xs) j s h =
    elim (get_split (owned d (own_kinds y)) (slots_from (suc d) xs) j s h) as (λ o. IsSlotOf d (y ∷ xs) j s) [
      | inl f ↦
          let is = owned_is d (own_kinds y) j s f in
          record { edge = zero; source = y; place = j; here = refl; stands = omega arith; kind = is.1; owner = is.0 ∙ (let z : d ≡ d + zero = omega arith in z) }
      | inr p ↦
          let r : IsSlotOf (suc d) xs p.0 s = slot_of (suc d) xs p.0 s p.2 in
          let long : length (owned d (own_kinds y)) ≡ own_len y = owned_length d (own_kinds y) in
          let at : j ≡ length (owned d (own_kinds y)) + p.0 = p.1 in
          let deep : p.0 ≡ base xs r.edge + r.place = r.stands in
          let whose : s.owner ≡ suc d + r.edge = r.owner in
          record {
            edge = suc r.edge;
            source = r.source;
            place = r.place;
            here = r.here;
            stands = omega (arith, at, long, deep);
            kind = r.kind;
            owner = omega (arith, whose);
          }
    ]

-- ---- an edge's own slots

pub all_own : (test : ℕ → Bool) (e n : ℕ) (slots : List Slot) → ((j : ℕ) (s : Slot) → slice_get slots j ≡ Some s → s.owner ≡ e → test (n + j) ≡ true)
    → list_all test (own_from e n slots) ≡ true
all_own test e n [] h = refl
all_own test e n (s ∷ slots) h =
    let rest : list_all test (own_from e (n + 1) slots) ≡ true =
    all_own test e (n + 1) slots (λ j x g o. let e : n + 1 + j ≡ n + suc j = omega arith in ap test e ∙ h (suc j) x g o) in
    elim (bool_cases (s.owner == e)) as (λ o. list_all test (if s.owner == e then n ∷ own_from e (n + 1) slots else own_from e (n + 1) slots) ≡ true) [
      | inl mine ↦
          let first : test n ≡ true = let same : n ≡ n + zero = omega arith in ap test same ∙ h zero s refl (eqb-true s.owner e mine) in
          subst (λ (b : Bool). list_all test (if b then n ∷ own_from e (n + 1) slots else own_from e (n + 1) slots) ≡ true) (sym mine)
          (ap (λ (b : Bool). b && list_all test (own_from e (n + 1) slots)) first ∙ rest)
      | inr other ↦ subst (λ (b : Bool). list_all test (if b then n ∷ own_from e (n + 1) slots else own_from e (n + 1) slots) ≡ true) (sym other) rest
    ]

pub none_own : (test : ℕ → Bool) (e n : ℕ) (slots : List Slot) → ((j : ℕ) (s : Slot) → slice_get slots j ≡ Some s → s.owner ≡ e → test (n + j) ≡ false)
    → list_any test (own_from e n slots) ≡ false
none_own test e n [] h = refl
none_own test e n (s ∷ slots) h =
    let rest : list_any test (own_from e (n + 1) slots) ≡ false =
    none_own test e (n + 1) slots (λ j x g o. let e : n + 1 + j ≡ n + suc j = omega arith in ap test e ∙ h (suc j) x g o) in
    elim (bool_cases (s.owner == e)) as (λ o. list_any test (if s.owner == e then n ∷ own_from e (n + 1) slots else own_from e (n + 1) slots) ≡ false) [
      | inl mine ↦
          let first : test n ≡ false = let same : n ≡ n + zero = omega arith in ap test same ∙ h zero s refl (eqb-true s.owner e mine) in
          subst (λ (b : Bool). list_any test (if b then n ∷ own_from e (n + 1) slots else own_from e (n + 1) slots) ≡ false) (sym mine)
          (ap (λ (b : Bool). b || list_any test (own_from e (n + 1) slots)) first ∙ rest)
      | inr other ↦ subst (λ (b : Bool). list_any test (if b then n ∷ own_from e (n + 1) slots else own_from e (n + 1) slots) ≡ false) (sym other) rest
    ]
