-- A walk along waits meets exactly the wanted edges.
use Rattle.std.proofs.Common.{◌≡◌, ℕ, zero, suc, ◌+◌, ◌<◌, ◌≤◌, Bool, true, false, eqb, List, [], ◌∷◌, length, replicate, Option, Some, None, refl, sym, ap, ◌∙◌, subst, arith, inl, inr}
use Rattle.std.specs.Prelude.{◌⊎◌, ◌||◌, nat_le, slice_get, slice_set}
use Rattle.std.proofs.lemmas.Bool.{cases_eq, eqb-true, eq-eqb, leb-false}
use Rattle.std.proofs.lemmas.Option.{slice_get_within}
use Rattle.std.proofs.Math.ListN.{length-replicate}
use Rattle.plan_image.specs.declared.image.Parts.{Parts}
use Rattle.plan_verify.specs.Tables.{waits_of}
use Rattle.plan_verify.specs.Members.{is_member}
use Rattle.plan_verify.specs.Facts.{TablesAreInRange}
use Rattle.plan_verify.specs.WellShaped.{IsWellShaped}
use Rattle.plan_machine.proofs.ListLemmas.{get_inside, get_same, get_other, set_length, or_cases, or_right}
use Rattle.plan_machine.specs.Wanted.{IsWanted, is_chosen, is_waited, chosen, any_outside, AreWanted}
use Rattle.plan_machine.proofs.ListLemmas.{none_member, member_contained}
use Rattle.plan_machine.proofs.RankLemmas.{wait_below}
use Rattle.plan_machine.specs.Walk.{Walked, meet_by, meet, meet_all, unmet, left, Walks}

pub first_in : (e : ℕ) (es : List ℕ) → is_member e (e ∷ es) ≡ true
first_in e es = ap (λ (b : Bool). b || is_member e es) (eq-eqb e e refl)

-- some edges are met
pub record MeetsAll (es : List ℕ) (old new : Walked) : Type 0 where
  pub long : length new.met ≡ length old.met
  pub kept : (e : ℕ) → slice_get old.met e ≡ Some true → slice_get new.met e ≡ Some true
  pub these : (e : ℕ) → is_member e es ≡ true → slice_get new.met e ≡ Some true
  pub only : (e : ℕ) → slice_get new.met e ≡ Some true → (slice_get old.met e ≡ Some true) ⊎ ((is_member e es ≡ true) × (is_member e new.ahead ≡ true))
  pub ahead_kept : (e : ℕ) → is_member e old.ahead ≡ true → is_member e new.ahead ≡ true
  pub ahead_only : (e : ℕ) → is_member e new.ahead ≡ true → (is_member e old.ahead ≡ true) ⊎ (is_member e es ≡ true)
  pub less : left new ≤ left old

unmet_set : (met : List Bool) (e : ℕ) → slice_get met e ≡ Some false → unmet (slice_set met e true) + 1 ≡ unmet met
unmet_set [] e h = absurd cc
unmet_set (false ∷ met) zero h = omega arith
unmet_set (true ∷ met) zero h = absurd cc
unmet_set (false ∷ met) (suc e) h = let r = unmet_set met e h in omega (arith, r)
unmet_set (true ∷ met) (suc e) h = unmet_set met e h

none_more : (w : Walked) → MeetsAll [] w w
none_more w = record {
  long = refl;
  kept = λ e h. h;
  these = λ e h. absurd cc;
  only = λ e h. inl h;
  ahead_kept = λ e h. h;
  ahead_only = λ e h. inl h;
  less = omega arith;
}

-- an edge that was met before
old_one : (w : Walked) (e : ℕ) → slice_get w.met e ≡ Some true → MeetsAll (e ∷ []) w w
old_one w e at = record {
  long = refl;
  kept = λ d h. h;
  these = λ d h. elim (or_cases (eqb e d) false h) [ inl same ↦ ap (slice_get w.met) (sym (eqb-true e d same)) ∙ at | inr bad ↦ absurd cc ];
  only = λ d h. inl h;
  ahead_kept = λ d h. h;
  ahead_only = λ d h. inl h;
  less = omega arith;
}

new_one : (w : Walked) (e : ℕ) → slice_get w.met e ≡ Some false → MeetsAll (e ∷ []) w (record { met = slice_set w.met e true; ahead = e ∷ w.ahead })
new_one w e at =
    let lt : e < length w.met = slice_get_within w.met e false at in
    let here : slice_get (slice_set w.met e true) e ≡ Some true = get_same w.met e true lt in
    record {
      long = set_length w.met e true;
      kept = λ d h. elim (cases_eq e d) [ inl same ↦ ap (slice_get (slice_set w.met e true)) (sym same) ∙ here | inr ne ↦ get_other w.met e d true ne ∙ h ];
      these = λ d h. elim (or_cases (eqb e d) false h) [ inl same ↦ ap (slice_get (slice_set w.met e true)) (sym (eqb-true e d same)) ∙ here | inr bad ↦ absurd cc ];
      only = λ d h. elim (cases_eq e d) [
        | inl same ↦ inr (ap (λ (n : ℕ). is_member n (e ∷ [])) (sym same) ∙ first_in e [], ap (λ (n : ℕ). is_member n (e ∷ w.ahead)) (sym same) ∙ first_in e w.ahead)
        | inr ne ↦ inl (sym (get_other w.met e d true ne) ∙ h)
      ];
      ahead_kept = λ d h. or_right (eqb e d) (is_member d w.ahead) h;
      ahead_only = λ d h. elim (or_cases (eqb e d) (is_member d w.ahead) h) [ inl same ↦ inr (ap (λ (b : Bool). b || false) same) | inr r ↦ inl r ];
      less = (let u = unmet_set w.met e at in omega (arith, u));
    }

meets_one : (w : Walked) (e : ℕ) → e < length w.met → MeetsAll (e ∷ []) w (meet w e)
meets_one w e lt = let at = get_inside w.met e lt in by at.0 at.1
  where
    by : (b : Bool) → slice_get w.met e ≡ Some b → MeetsAll (e ∷ []) w (meet w e)
    by true at = subst (λ (o : Option Bool). MeetsAll (e ∷ []) w (meet_by w e o)) (sym at) (old_one w e at)
    by false at = subst (λ (o : Option Bool). MeetsAll (e ∷ []) w (meet_by w e o)) (sym at) (new_one w e at)

then_more : (e : ℕ) (es : List ℕ) (a b c : Walked) → MeetsAll (e ∷ []) a b → MeetsAll es b c → MeetsAll (e ∷ es) a c
then_more e es a b c m r = record {
  long = r.long ∙ m.long;
  kept = λ d h. r.kept d (m.kept d h);
  these = λ d h. elim (or_cases (eqb e d) (is_member d es) h) [ inl same ↦ r.kept d (m.these d (ap (λ (x : Bool). x || false) same)) | inr later ↦ r.these d later ];
  only = λ d h. elim (r.only d h) [
    | inl old ↦ elim (m.only d old) [
      | inl older ↦ inl older
      | inr q ↦ inr (elim (or_cases (eqb e d) false q.0) [ inl same ↦ ap (λ (x : Bool). x || is_member d es) same | inr bad ↦ absurd cc ], r.ahead_kept d q.1)
    ]
    | inr q ↦ inr (or_right (eqb e d) (is_member d es) q.0, q.1)
  ];
  ahead_kept = λ d h. r.ahead_kept d (m.ahead_kept d h);
  ahead_only = λ d h. elim (r.ahead_only d h) [
    | inl old ↦ elim (m.ahead_only d old) [
      | inl older ↦ inl older
      | inr q ↦ inr (elim (or_cases (eqb e d) false q) [ inl same ↦ ap (λ (x : Bool). x || is_member d es) same | inr bad ↦ absurd cc ])
    ]
    | inr q ↦ inr (or_right (eqb e d) (is_member d es) q)
  ];
  less = omega (arith, r.less, m.less);
}

pub meets_all : (es : List ℕ) (w : Walked) → ((e : ℕ) → is_member e es ≡ true → e < length w.met) → MeetsAll es w (meet_all w es)
meets_all [] w within = none_more w
meets_all (e ∷ es) w within =
    let m = meets_one w e (within e (first_in e es)) in
    then_more e es w (meet w e) (meet_all (meet w e) es) m
    (meets_all es (meet w e) (λ d h. omega (arith, within d (or_right (eqb e d) (is_member d es) h), m.long)))

-- ---- for the code

pub meets_old : (w : Walked) (e : ℕ) (b : Bool) → slice_get w.met e ≡ Some b → b ≡ true → w ≡ meet w e
meets_old w e b at is = sym (ap (meet_by w e) (at ∙ ap Some is))

pub meets_new : (w : Walked) (e : ℕ) (b : Bool) → slice_get w.met e ≡ Some b → b ≡ false → record { met = slice_set w.met e true; ahead = e ∷ w.ahead } ≡ meet w e
meets_new w e b at is = sym (ap (meet_by w e) (at ∙ ap Some is))

pub meet_long : (w : Walked) (e : ℕ) → length (meet w e).met ≡ length w.met
meet_long w e = by (slice_get w.met e)
  where
    by : (o : Option Bool) → length (meet_by w e o).met ≡ length w.met
    by None = refl
    by (Some true) = refl
    by (Some false) = set_length w.met e true

-- ---- the walk

none_met : (n e : ℕ) → slice_get (replicate n false) e ≡ Some true → ⊥
none_met zero e h = absurd cc
none_met (suc n) zero h = absurd cc
none_met (suc n) (suc e) h = none_met n e h

pub walk_begins : (p : Parts) (targets : List ℕ) (w : Walked) → w.met ≡ replicate (length p.edges) false → w.ahead ≡ [] → ((e : ℕ) → is_member e (chosen p targets) ≡ true → e < length p.edges) → Walks p targets (meet_all w (chosen p targets))
walk_begins p targets w met ahead inside =
    let long : length w.met ≡ length p.edges = ap length met ∙ length-replicate (length p.edges) false in
    let m = meets_all (chosen p targets) w (λ e h. omega (arith, inside e h, long)) in
    record {
      long = m.long ∙ long;
      begun = m.these;
      sound = λ e h. elim (m.only e h) [ inl old ↦ absurd (none_met (length p.edges) e (ap (λ (l : List Bool). slice_get l e) (sym met) ∙ old)) | inr q ↦ is_chosen q.0 ];
      on = λ e v h wait. elim (m.only e h) [ inl old ↦ absurd (none_met (length p.edges) e (ap (λ (l : List Bool). slice_get l e) (sym met) ∙ old)) | inr q ↦ inl q.1 ];
      ahead_met = λ e h. elim (m.ahead_only e h) [ inl old ↦ absurd (let clash : is_member e [] ≡ true = ap (is_member e) (sym ahead) ∙ old in cc) | inr q ↦ m.these e q ];
    }

pub walk_goes_on : (p : Parts) (targets : List ℕ) (old mid : Walked) (top : ℕ) → Walks p targets old → old.ahead ≡ top ∷ mid.ahead → mid.met ≡ old.met → ((e : ℕ) → is_member e (waits_of p top) ≡ true → e < length p.edges)
    → Walks p targets (meet_all mid (waits_of p top)) × (left (meet_all mid (waits_of p top)) < left old)
walk_goes_on p targets old mid top walks ahead met inside =
    let long : length mid.met ≡ length p.edges = ap length met ∙ walks.long in
    let m = meets_all (waits_of p top) mid (λ e h. omega (arith, inside e h, long)) in
    let top_met : slice_get old.met top ≡ Some true = walks.ahead_met top (ap (is_member top) ahead ∙ first_in top mid.ahead) in (
      record {
        long = m.long ∙ long;
        begun = λ e h. m.kept e (up e (walks.begun e h));
        sound = λ e h. elim (m.only e h) [ inl before ↦ walks.sound e (down e before) | inr q ↦ is_waited (walks.sound top top_met) q.0 ];
        on = λ e v h wait. elim (m.only e h) [
          | inr q ↦ inl q.1
          | inl before ↦ elim (walks.on e v (down e before) wait) [
            | inr was ↦ inr (m.kept v (up v was))
            | inl was ↦ elim (or_cases (eqb top e) (is_member e mid.ahead) (ap (is_member e) (sym ahead) ∙ was)) [
              | inl same ↦ inr (m.these v (ap (λ (n : ℕ). is_member v (waits_of p n)) (eqb-true top e same) ∙ wait))
              | inr still ↦ inl (m.ahead_kept e still)
            ]
          ]
        ];
        ahead_met = λ e h. elim (m.ahead_only e h) [
          | inl before ↦ m.kept e (up e (walks.ahead_met e (ap (is_member e) ahead ∙ or_right (eqb top e) (is_member e mid.ahead) before)))
          | inr q ↦ m.these e q
        ];
      },
      omega (arith, m.less, ap length ahead, ap unmet met),
    )
  where
    up : (e : ℕ) → slice_get old.met e ≡ Some true → slice_get mid.met e ≡ Some true
    up e h = ap (λ (l : List Bool). slice_get l e) met ∙ h

    down : (e : ℕ) → slice_get mid.met e ≡ Some true → slice_get old.met e ≡ Some true
    down e h = ap (λ (l : List Bool). slice_get l e) (sym met) ∙ h

all_met : (p : Parts) (targets : List ℕ) (w : Walked) → Walks p targets w → w.ahead ≡ [] → (e : ℕ) → IsWanted p targets e → slice_get w.met e ≡ Some true
all_met p targets w walks done e (is_chosen h) = walks.begun e h
all_met p targets w walks done e (is_waited {e = d} want wait) =
    elim (walks.on d e (all_met p targets w walks done d want) wait) [
      | inr met ↦ met
      | inl more ↦ absurd (let clash : is_member d [] ≡ true = ap (is_member d) (sym done) ∙ more in cc)
    ]

-- if no edge is left to continue from, the met edges are the wanted ones
pub walk_ends : (p : Parts) (targets : List ℕ) (w : Walked) → Walks p targets w → w.ahead ≡ [] → AreWanted p targets w.met
walk_ends p targets w walks done = record { long = walks.long; each = λ e. (walks.sound e, all_met p targets w walks done e) }

-- ---- chosen edges and waits are inside the image

pub chosen_inside : TablesAreInRange → (p : Parts) → IsWellShaped p → (targets : List ℕ) → any_outside p targets ≡ false → (e : ℕ) → is_member e (chosen p targets) ≡ true → e < length p.edges
chosen_inside in_range p shaped [] within e h = (in_range p shaped).defaults e (member_contained e p.defaults h)
chosen_inside in_range p shaped (t ∷ ts) within e h =
    leb-false (length p.edges) e (none_member (λ d. nat_le (length p.edges) d) (t ∷ ts) e within h)

pub waits_inside : TablesAreInRange → (p : Parts) → IsWellShaped p → (targets : List ℕ) (w : Walked) → Walks p targets w → (top : ℕ) → is_member top w.ahead ≡ true → (e : ℕ) → is_member e (waits_of p top) ≡ true → e < length p.edges
waits_inside in_range p shaped targets w walks top h e wait =
    (wait_below in_range p shaped top e (omega (arith, slice_get_within w.met top true (walks.ahead_met top h), walks.long)) wait).0
