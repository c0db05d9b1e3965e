-- The tables of an image are right.
use Rattle.std.proofs.Common.{◌≡◌, ℕ, zero, suc, ◌+◌, ◌<◌, Bool, true, false, List, [], ◌∷◌, length, Option, Some, None, refl, sym, ap, ◌∙◌, arith}
use Rattle.std.specs.Prelude.{◌||◌, ◌&&◌, not, ◌==◌, slice_get, nat_le}
use Rattle.std.specs.List.{list_any, list_all}
use Rattle.std.proofs.lemmas.Bool.{eq-eqb, lt-leb}
use Rattle.std.proofs.lemmas.Option.{slice_get_within}
use Rattle.plan_image.specs.declared.body.Kind.{Kind}
use Rattle.plan_image.specs.declared.body.Kind.TheVariants.{Stamp, Flag}
use Rattle.plan_image.specs.declared.image.Slot.{Slot}
use Rattle.plan_image.specs.declared.image.Parts.{Parts}
use Rattle.plan_verify.specs.declared.fault.Refusal.{Refusal}
use Rattle.plan_verify.specs.declared.fault.Refusal.TheVariants as refusal
use Rattle.plan_verify.specs.Members.{is_member}
use Rattle.plan_verify.specs.Tables.{kind_in, slot_kind, own_slots}
use Rattle.plan_verify.specs.Shape.{is_paths, ranks_below, lacks_outputs, first_of, table_refusal_of, table_refusal, image_refusal}
use Rattle.plan_compile.specs.declared.slot_pattern.SlotPattern.{SlotPattern}
use Rattle.plan_compile.specs.declared.slot_pattern.SlotPattern.TheVariants.{OneFlag, OwnFlags, Gathers, Alone}
use Rattle.plan_compile.specs.Builds.{Build, Builds}
use Rattle.plan_compile.specs.Slots.{form_of, stamps, pairs, kinds_by}
use Rattle.plan_compile.specs.Names.{label_of, all_texts}
use Rattle.plan_compile.specs.Images.{image_of}
use Rattle.plan_compile.specs.Faithful.{IsEdge, IsSound}
use Rattle.plan_compile.proofs.ListLemmas.{some_is, or_left, or_right}
use Rattle.plan_compile.proofs.RunLemmas.{IsSlotOf, slot_of, none_own}
use Rattle.plan_compile.proofs.EdgeLemmas.{image_edge, image_count, text_found}
use Rattle.plan_compile.proofs.LayoutLemmas.{number_inside, pool_right}

pub all_members : (test : ℕ → Bool) (ws : List ℕ) → ((w : ℕ) → is_member w ws ≡ true → test w ≡ true) → list_all test ws ≡ true
all_members test [] h = refl
all_members test (w ∷ ws) h =
    ap (λ (b : Bool). b && list_all test ws) (h w (or_left (w == w) (is_member w ws) (eq-eqb w w refl)))
    ∙ all_members test ws (λ v m. h v (or_right (w == v) (is_member v ws) m))

-- ---- no slot holds paths

abbrev NoPaths : List Kind → Type 0
NoPaths ks = (i : ℕ) (k : Kind) → slice_get ks i ≡ Some k → is_paths k ≡ false

no_more : NoPaths []
no_more i k g = absurd cc

first_fits : (k : Kind) (ks : List Kind) → is_paths k ≡ false → NoPaths ks → NoPaths (k ∷ ks)
first_fits k ks h rest zero l g = ap is_paths (sym (some_is k l g)) ∙ h
first_fits k ks h rest (suc i) l g = rest i l g

stamps_fit : (fs : List ℕ) → NoPaths (stamps fs)
stamps_fit [] = no_more
stamps_fit (f ∷ fs) = first_fits Stamp (stamps fs) refl (stamps_fit fs)

pairs_fit : (fs : List ℕ) → NoPaths (pairs fs)
pairs_fit [] = no_more
pairs_fit (f ∷ fs) = first_fits Stamp (Flag ∷ pairs fs) refl (first_fits Flag (pairs fs) refl (pairs_fit fs))

kinds_fit : (form : SlotPattern) (fs : List ℕ) → NoPaths (kinds_by form fs)
kinds_fit OneFlag fs = first_fits Flag (Stamp ∷ stamps fs) refl (first_fits Stamp (stamps fs) refl (stamps_fit fs))
kinds_fit OwnFlags fs = first_fits Stamp (pairs fs) refl (pairs_fit fs)
kinds_fit Gathers fs = first_fits Stamp (Flag ∷ []) refl (first_fits Flag [] refl no_more)
kinds_fit Alone fs = pairs_fit fs

no_paths : (t : Builds) (e : ℕ) → list_any (λ s. is_paths (slot_kind (image_of t) s)) (own_slots (image_of t) e) ≡ false
no_paths t e =
    none_own (λ s. is_paths (slot_kind (image_of t) s)) e 0 (image_of t).slots λ j s h mine.
    let r : IsSlotOf zero t.edges j s = slot_of zero t.edges j s h in
    let same : 0 + j ≡ j = omega arith in
    ap (λ (n : ℕ). is_paths (slot_kind (image_of t) n)) same ∙ ap (λ (o : Option Slot). is_paths (kind_in o)) h ∙ kinds_fit (form_of r.source) r.source.outputs r.place s.kind r.kind

-- ---- an edge's tables

outputs_right : (p : Parts) (fs : List ℕ) → (fs ≡ [] → ⊥) → list_any (λ f. nat_le (length p.files) f) fs ≡ false → lacks_outputs p fs ≡ false
outputs_right p [] some inside = absurd (some refl)
outputs_right p (f ∷ fs) some inside = inside

none_of : (a b c d e : Bool) (r s u v w : Refusal) → not a ≡ false → b ≡ false → c ≡ false → d ≡ false → e ≡ false
    → first_of ((not a, r) ∷ (b, s) ∷ (c, u) ∷ (d, v) ∷ (e, w) ∷ []) ≡ None
none_of true false false false false r s u v w ha hb hc hd he = refl
none_of false b c d e r s u v w ha hb hc hd he = absurd cc
none_of true true c d e r s u v w ha hb hc hd he = absurd cc
none_of true false true d e r s u v w ha hb hc hd he = absurd cc
none_of true false false true e r s u v w ha hb hc hd he = absurd cc
none_of true false false false true r s u v w ha hb hc hd he = absurd cc

pub tables_right : (t : Builds) → IsSound t → (e : ℕ) (x : Build) → IsEdge t e x → table_refusal (image_of t) e ≡ None
unfolding table_refusal
tables_right t sound e x at =
    let p = image_of t in
    let waits : list_all (λ w. ranks_below (slice_get p.edges w) x.rank) x.waits ≡ true =
    all_members (λ w. ranks_below (slice_get p.edges w) x.rank) x.waits
    (λ w m. let r = sound.ranks e x w at m in ap (λ o. ranks_below o x.rank) (image_edge t w r.0 r.1) ∙ r.2) in
    ap (table_refusal_of p e) (image_edge t e x at)
    ∙ none_of (list_all (λ w. ranks_below (slice_get p.edges w) x.rank) x.waits) _ _ _ _ refusal.BadWait refusal.BadPool refusal.BadText refusal.BadFile refusal.PathsInSlot
    (ap not waits) (pool_right t e x at) (number_inside (all_texts t.edges) (label_of x) (text_found t.edges e x at zero (label_of x) refl))
    (outputs_right p x.outputs (sound.makes e x at) (sound.outputs e x at)) (no_paths t e)

-- ---- the tables of all edges

defaults_right : (t : Builds) → IsSound t → list_any (λ e. nat_le (length (image_of t).edges) e) t.defaults ≡ false
defaults_right t sound = ap (λ (n : ℕ). list_any (λ e. nat_le n e) t.defaults) (image_count t) ∙ sound.defaults

any_none : {A : Type 0} (test : A → Bool) (xs : List A) → ((j : ℕ) (x : A) → slice_get xs j ≡ Some x → test x ≡ false) → list_any test xs ≡ false
any_none test [] h = refl
any_none test (x ∷ xs) h = ap (λ (b : Bool). b || list_any test xs) (h zero x refl) ∙ any_none test xs (λ j y g. h (suc j) y g)

owners_right : (t : Builds) → list_any (λ (s : Slot). nat_le (length (image_of t).edges) s.owner) (image_of t).slots ≡ false
owners_right t =
    any_none (λ (s : Slot). nat_le (length (image_of t).edges) s.owner) (image_of t).slots λ j s h.
    let r : IsSlotOf zero t.edges j s = slot_of zero t.edges j s h in
    let whose : s.owner ≡ zero + r.edge = r.owner in
    let within : r.edge < length t.edges = slice_get_within t.edges r.edge r.source r.here in
    let long : length (image_of t).edges ≡ length t.edges = image_count t in
    lt-leb (length (image_of t).edges) s.owner (omega (arith, whose, within, long))

two_none : (a b : Bool) (r s : Refusal) → a ≡ false → b ≡ false → first_of ((a, r) ∷ (b, s) ∷ []) ≡ None
two_none false false r s ha hb = refl
two_none true b r s ha hb = absurd cc
two_none false true r s ha hb = absurd cc

pub image_right : (t : Builds) → IsSound t → image_refusal (image_of t) ≡ None
unfolding image_refusal
image_right t sound = two_none _ _ refusal.BadWait refusal.BadSlot (defaults_right t sound) (owners_right t)
