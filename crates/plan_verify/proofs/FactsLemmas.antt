-- The facts that the crates above take from a well-shaped image.
use Rattle.std.proofs.Common.{◌≡◌, ℕ, zero, suc, ◌+◌, ◌<◌, Bool, true, false, cond, eqb, leb, List, [], ◌∷◌, length, drop, get_or, Option, Some, None, All, refl, sym, ap, subst, ◌∙◌, arith}
use Rattle.std.specs.Prelude.{slice_get}
use Rattle.std.specs.List.{list_all, list_any}
use Rattle.std.proofs.lemmas.Bool.{eq-eqb, leb-false, ltb-true}
use Rattle.std.proofs.lemmas.Option.{slice_get_within}
use Rattle.plan_image.specs.declared.image.Slot.{Slot}
use Rattle.plan_image.specs.declared.image.Edge.{Edge}
use Rattle.plan_image.specs.declared.image.Parts.{Parts}
use Rattle.plan_verify.specs.Tables.{is_outside, own_from, own_slots, slot_kind, kind_in}
use Rattle.plan_verify.specs.Shape.{ranks_below, is_paths, lacks_outputs, table_checks, image_checks, image_refusal}
use Rattle.plan_verify.specs.WellShaped.{IsWellShaped}
use Rattle.plan_verify.specs.Facts.{IsEdgeInRange, IsSlotInRange, TablesAreInRange, VerifiedNeverGoesWrong, RefusalsAreTrue}
use Rattle.plan_verify.proofs.ListLemmas.{and_both, or_false, not_false}
use Rattle.plan_verify.proofs.FitsLaw.{all_pass}
use Rattle.plan_verify.proofs.OwnSlotsLemmas.{head_of_rest, tail_of_rest}
use Rattle.plan_verify.proofs.ShapesLemmas.{refused_has_none}
use Rattle.plan_verify.proofs.VerifiedLemmas.{table_refusal_is, refused_is_not}
use Rattle.plan_verify.proofs.AloneLaw.{never_wrong_alone}

-- ---- tests of lists

all_at : {A : Type 0} (test : A → Bool) (xs : List A) → list_all test xs ≡ true → (k : ℕ) (d : A) → k < length xs → test (get_or xs k d) ≡ true
all_at test [] h k d lt = absurd (omega arith)
all_at test (x ∷ xs) h zero d lt = (and_both (test x) (list_all test xs) h).0
all_at test (x ∷ xs) h (suc k) d lt = all_at test xs (and_both (test x) (list_all test xs) h).1 k d (omega arith)

none_at : {A : Type 0} (test : A → Bool) (xs : List A) → list_any test xs ≡ false → (k : ℕ) (d : A) → k < length xs → test (get_or xs k d) ≡ false
none_at test [] h k d lt = absurd (omega arith)
none_at test (x ∷ xs) h zero d lt = (or_false (test x) (list_any test xs) h).0
none_at test (x ∷ xs) h (suc k) d lt = none_at test xs (or_false (test x) (list_any test xs) h).1 k d (omega arith)

none_of : {A : Type 0} (test : A → Bool) (xs : List A) → list_any test xs ≡ false → (k : ℕ) (x : A) → slice_get xs k ≡ Some x → test x ≡ false
none_of test [] h k x at = absurd cc
none_of test (y ∷ xs) h zero x at = ap test (let e : x ≡ y = cc in e) ∙ (or_false (test y) (list_any test xs) h).0
none_of test (y ∷ xs) h (suc k) x at = none_of test xs (or_false (test y) (list_any test xs) h).1 k x at

-- ---- edges

maker_by : (o : Option Edge) (rank : ℕ) → ranks_below o rank ≡ true → (maker : Edge) × (o ≡ Some maker) × (maker.rank < rank)
maker_by None rank h = absurd cc
maker_by (Some maker) rank h = (maker, refl, ltb-true maker.rank rank h)

outputs_by : (p : Parts) (fs : List ℕ) → lacks_outputs p fs ≡ false → (0 < length fs) × All (λ f. f < length p.files) fs
outputs_by p [] h = absurd cc
outputs_by p (f ∷ fs) h = (omega arith, λ k d lt. leb-false (length p.files) (get_or (f ∷ fs) k d) (none_at (λ g. leb (length p.files) g) (f ∷ fs) h k d lt))

edge_in_range : (p : Parts) (e : ℕ) (x : Edge) → IsWellShaped p → slice_get p.edges e ≡ Some x → IsEdgeInRange p x
edge_in_range p e x shaped here =
    let lt = slice_get_within p.edges e x here in
    let tables = sym (table_refusal_is p e x here) ∙ (shaped.edges e lt).1.tables in
    let a = all_pass (table_checks p e x) tables in
    let outputs = outputs_by p x.outputs a.1.1.1.0 in
    record {
      waits = λ w there. maker_by (slice_get p.edges w) x.rank (ap (λ (v : ℕ). ranks_below (slice_get p.edges v) x.rank) (sym there.2) ∙ all_at (λ v. ranks_below (slice_get p.edges v) x.rank) x.waits (not_false (list_all (λ v. ranks_below (slice_get p.edges v) x.rank) x.waits) a.0) there.0 w there.1);
      pool = λ pool is. leb-false (length p.pools) pool (ap (is_outside p) (sym is) ∙ a.1.0);
      label = leb-false (length p.texts) x.label a.1.1.0;
      some_output = outputs.0;
      outputs = outputs.1;
    }

-- ---- slots

no_paths_by : (p : Parts) (e n : ℕ) (b : Bool) (slots : List Slot) → list_any (λ s. is_paths (slot_kind p s)) (cond b (n ∷ own_from e (n + 1) slots) (own_from e (n + 1) slots)) ≡ false
    → list_any (λ s. is_paths (slot_kind p s)) (own_from e (n + 1) slots) ≡ false
no_paths_by p e n true slots h = (or_false (is_paths (slot_kind p n)) (list_any (λ s. is_paths (slot_kind p s)) (own_from e (n + 1) slots)) h).1
no_paths_by p e n false slots h = h

no_paths : (p : Parts) (slots : List Slot) (n k : ℕ) (slot : Slot) → drop n p.slots ≡ slots → slice_get slots k ≡ Some slot
    → list_any (λ s. is_paths (slot_kind p s)) (own_from slot.owner n slots) ≡ false → is_paths slot.kind ≡ false
no_paths p [] n k slot is at none = absurd cc
no_paths p (first ∷ slots) n zero slot is at none =
    let same : first ≡ slot = cc in
    let kind : slot_kind p n ≡ slot.kind = ap kind_in (head_of_rest n p.slots first slots is) ∙ ap (λ (s : Slot). s.kind) same in
    let mine : eqb first.owner slot.owner ≡ true = eq-eqb first.owner slot.owner (ap (λ (s : Slot). s.owner) same) in
    let first_none : list_any (λ s. is_paths (slot_kind p s)) (n ∷ own_from slot.owner (n + 1) slots) ≡ false = subst (λ (b : Bool). list_any (λ s. is_paths (slot_kind p s)) (cond b (n ∷ own_from slot.owner (n + 1) slots) (own_from slot.owner (n + 1) slots)) ≡ false) mine none in
    ap is_paths (sym kind) ∙ (or_false (is_paths (slot_kind p n)) (list_any (λ s. is_paths (slot_kind p s)) (own_from slot.owner (n + 1) slots)) first_none).0
no_paths p (first ∷ slots) n (suc k) slot is at none =
    no_paths p slots (n + 1) k slot (tail_of_rest n p.slots first slots is) at (no_paths_by p slot.owner n (eqb first.owner slot.owner) slots none)

module _ (p : Parts) (shaped : IsWellShaped p) where
  all_tables : (list_any (λ e. leb (length p.edges) e) p.defaults ≡ false) × (list_any (λ (s : Slot). leb (length p.edges) s.owner) p.slots ≡ false)
  unfolding image_refusal
  all_tables = let a = all_pass (image_checks p) shaped.tables in (a.0, a.1.0)

  own_none : (e : ℕ) (o : Option Edge) → slice_get p.edges e ≡ o → e < length p.edges → list_any (λ s. is_paths (slot_kind p s)) (own_slots p e) ≡ false
  own_none e (Some x) here lt = (all_pass (table_checks p e x) (sym (table_refusal_is p e x here) ∙ (shaped.edges e lt).1.tables)).1.1.1.1.0
  own_none e None here lt = absurd (none_there e p.edges here lt)
    where
      none_there : (e : ℕ) (xs : List Edge) → slice_get xs e ≡ None → e < length xs → ⊥
      none_there e [] is lt = omega (arith, lt)
      none_there zero (x ∷ xs) is lt = cc
      none_there (suc e) (x ∷ xs) is lt = none_there e xs is (omega (arith, lt))

  slot_in_range : (s : ℕ) (slot : Slot) → slice_get p.slots s ≡ Some slot → IsSlotInRange p slot
  slot_in_range s slot at =
      let owner = leb-false (length p.edges) slot.owner (none_of (λ (o : Slot). leb (length p.edges) o.owner) p.slots all_tables.1 s slot at) in
      record { owner = owner; kind = no_paths p p.slots 0 s slot refl at (own_none slot.owner (slice_get p.edges slot.owner) refl owner) }

pub tables_are_in_range : TablesAreInRange
tables_are_in_range p shaped = record {
  edges = λ e x here. edge_in_range p e x shaped here;
  slots = slot_in_range p shaped;
  defaults = λ e there. subst (λ (d : ℕ). d < length p.edges) there.2 (leb-false (length p.edges) (get_or p.defaults there.0 e) (none_at (λ d. leb (length p.edges) d) p.defaults (all_tables p shaped).0 there.0 e there.1));
}

pub verified_never_goes_wrong : VerifiedNeverGoesWrong
verified_never_goes_wrong p e shaped lt = never_wrong_alone p e (shaped.edges e lt)

pub refusals_are_true : RefusalsAreTrue
refusals_are_true = record { edge = λ p e place r. refused_has_none p e place r; image = refused_is_not }
