-- The pass: the invariant from place to place.
use Rattle.std.proofs.Common.{◌≡◌, ℕ, zero, suc, ◌+◌, ◌<◌, ◌≤◌, Bool, true, false, cond, eqb, List, [], ◌∷◌, ◌++◌, length, get_or, Option, Some, None, All, set, refl, sym, ap, subst, ◌∙◌, append_assoc, arith, inl, inr}
use Rattle.std.specs.Prelude.{replicate, slice_get}
use Rattle.std.specs.List.{AllByRecursion}
use Rattle.std.proofs.lemmas.Bool.{cases_eq, eq-eqb, ne_eqb, ltb-false}
use Rattle.std.proofs.lemmas.List.{append-nil, length_push, length-set}
use Rattle.std.proofs.lemmas.List.Elements.{All-from_recursion}
use Rattle.std.proofs.lemmas.Option.{slice_get_within, slice_get_read}
use Rattle.plan_image.specs.declared.body.Instr.{Instr}
use Rattle.plan_image.specs.declared.body.Instr.TheVariants as op
use Rattle.plan_image.specs.declared.image.Parts.{Parts}
use Rattle.plan_image.specs.Code.{code}
use Rattle.plan_verify.specs.declared.kinds.Shape.{Shape}
use Rattle.plan_verify.specs.declared.arrivals.Arrival.{Arrival}
use Rattle.plan_verify.specs.declared.arrivals.Arrival.TheVariants as arrival
use Rattle.plan_verify.specs.declared.arrivals.Flow.{Flow}
use Rattle.plan_verify.specs.declared.fault.Refusal.{Refusal}
use Rattle.plan_verify.specs.Shape.{left, targets, refused, kinds_after, table_refusal}
use Rattle.plan_verify.specs.WellShaped.{at_start, toward, arriving, IsShapeAmong, IsRefusedAt, not_reached, shapes_differ, check_fails, IsFirstRefusal, place_fails}
use Rattle.plan_verify.specs.Arrivals.{Describes, JoinsEach, jumps_to}
use Rattle.plan_verify.specs.OwnSet.{IsOwnSet}
use Rattle.plan_verify.specs.Pass.{goes_on, brought, brought_to, IsMet, MeetsAs, Reached}
use Rattle.plan_verify.proofs.ListLemmas.{some_is, get_inside}
use Rattle.plan_verify.proofs.FitsLaw.{IsOnwards, passed_from}
use Rattle.plan_verify.proofs.ShapesLemmas.{arriving_none, arriving-push, AreShapes-push, shape_own}

-- ---- shapes that are carried along, and those that jumps bring

nothing : (b : Bool) → ◌≡◌ {A = List Shape} (cond b [] []) []
nothing true = refl
nothing false = refl

either : (a b : Bool) (s : Shape) → cond a (s ∷ cond b (s ∷ []) []) (cond b (s ∷ []) []) ≡ cond b (s ∷ []) [] ++ cond a (s ∷ []) []
either true true s = refl
either true false s = refl
either false true s = refl
either false false s = refl

along : Instr → Shape → Flow
along i s = record { shape = s; falls = goes_on i }

-- the shape that an instruction leaves is carried by jumps or along
split_targets : (n m : ℕ) (i : Instr) (s : Shape) → toward m (targets n i) s ≡ toward m (jumps_to i) s ++ brought_to (along i s) (n + 1) m
unfolding along
split_targets n m op.End s = sym (nothing (eqb (n + 1) m))
split_targets n m (op.Jump d) s = sym (ap (λ (xs : List Shape). toward m (d ∷ []) s ++ xs) (nothing (eqb (n + 1) m)) ∙ append-nil (toward m (d ∷ []) s))
split_targets n m (op.JumpIf d) s = either (eqb (n + 1) m) (eqb d m) s
split_targets n m _ s = refl

-- ---- jumps

append_cons : {A : Type 0} (xs : List A) (y : A) (ys : List A) → xs ++ y ∷ ys ≡ (xs ++ y ∷ []) ++ ys
append_cons xs y ys = sym (append_assoc xs (y ∷ []) ys)

joined_each : (ts : List ℕ) (old new : List Arrival) (s : Shape) (m : ℕ) (b : Arrival) → JoinsEach old new ts s → slice_get new m ≡ Some b
    → (a : Arrival) × (slice_get old m ≡ Some a) × ((xs : List Shape) → Describes a xs → Describes b (xs ++ toward m ts s))
joined_each [] old new s m b joins got = (b, ap (λ (xs : List Arrival). slice_get xs m) (sym joins) ∙ got, λ xs d. rw (append-nil xs) d)
joined_each (t ∷ ts) old new s m b joins got =
    let mid = joins.0 in
    let one = joins.1 in
    let rest = joined_each ts mid new s m b joins.2 got in
    elim (cases_eq t m) [
      | inl same ↦
          let in_mid = slice_get_within mid m rest.0 rest.1 in
          let in_old : m < length old = omega (arith, one.long, in_mid) in
          let a = get_inside old m in_old in
          let there = one.there a.0 (ap (λ (k : ℕ). slice_get old k) same ∙ a.1) in
          let mid-is : there.0 ≡ rest.0 = some_is there.0 rest.0 (sym there.1 ∙ ap (λ (k : ℕ). slice_get mid k) same ∙ rest.1) in
          (a.0, a.1, λ xs d. rw (eq-eqb t m same) (let more = there.2.more xs d in rw append_cons (rest.2 (xs ++ s ∷ []) (rw mid-is at more))))
      | inr differ ↦
          let at_old : slice_get old m ≡ Some rest.0 = sym (one.others m (λ e. differ (sym e))) ∙ rest.1 in
          (rest.0, at_old, λ xs d. rw (ne_eqb t m differ) (rest.2 xs d))
    ]

set_other : {A : Type 0} (xs : List A) (i k : ℕ) (y : A) → i < k → slice_get (set xs i y) k ≡ slice_get xs k
set_other [] i k y lt = refl
set_other (x ∷ xs) i zero y lt = absurd (omega arith)
set_other (x ∷ xs) zero (suc k) y lt = refl
set_other (x ∷ xs) (suc i) (suc k) y lt = set_other xs i k y (omega arith)

-- ---- the first place

nothing_there : (n k : ℕ) (a : Arrival) → slice_get (replicate n arrival.Nothing) k ≡ Some a → arrival.Nothing ≡ a
nothing_there zero k a e = cc
nothing_there (suc n) zero a e = some_is arrival.Nothing a e
nothing_there (suc n) (suc k) a e = nothing_there n k a e

first_arrives : (p : Parts) (e : ℕ) (m : ℕ) (flow : Flow) → flow.shape ≡ at_start → flow.falls ≡ true → arriving p e [] m ≡ brought_to flow 0 m
unfolding arriving
first_arrives p e zero flow is falls = rw (arriving_none p 0 (code p e) 0, falls, is) refl
first_arrives p e (suc m) flow is falls = rw (arriving_none p 0 (code p e) (suc m), ne_eqb 0 (suc m) (λ e. omega (arith, e))) refl

-- the invariant before the first place
pub starts : (p : Parts) (e n : ℕ) (arrivals : List Arrival) (flow : Flow) → arrivals ≡ replicate n arrival.Nothing → flow.shape ≡ at_start → flow.falls ≡ true → Reached p e 0 arrivals flow
starts p e n arrivals flow is shape falls = record {
  shapes = [];
  count = refl;
  are = record { within = omega arith; each = λ place i s at got. absurd cc };
  kept = record {
    each = λ m a le got.
        let none : arrival.Nothing ≡ a = nothing_there n m a (ap (λ (xs : List Arrival). slice_get xs m) (sym is) ∙ got) in
        ([], first_arrives p e m flow shape falls, rw (← none) refl);
  };
}

-- ---- one place

module _ (p : Parts) (e place : ℕ) (old : List Arrival) (flow : Flow) (r : Reached p e place old flow) where
  here_count : eqb (length r.shapes) (length r.shapes) ≡ true
  here_count = eq-eqb (length r.shapes) (length r.shapes) refl

  -- the shapes that arrive at the place
  pub met : (a : Arrival) (next : Flow) (result : Option Refusal) → slice_get old place ≡ Some a → MeetsAs a flow next result → IsMet (arriving p e r.shapes (length r.shapes)) next.shape result
  met a next result got meets =
      let there = r.kept.each (length r.shapes) a (omega arith) (ap (λ (k : ℕ). slice_get old k) r.count ∙ got) in
      let whole : arriving p e r.shapes (length r.shapes) ≡ there.0 ++ brought flow = there.1 ∙ rw here_count refl in
      subst (λ (xs : List Shape). IsMet xs next.shape result) (sym whole) (meets.meets there.0 there.2)

  at_place : (i : Instr) → slice_get (code p e) place ≡ Some i → slice_get (code p e) (length r.shapes) ≡ Some i
  at_place i here = ap (λ (k : ℕ). slice_get (code p e) k) r.count ∙ here

  inside : (i : Instr) → slice_get (code p e) place ≡ Some i → length r.shapes < length (code p e)
  inside i here = slice_get_within (code p e) (length r.shapes) i (at_place i here)

  refused_at : (f : Refusal) (i : Instr) → table_refusal p e ≡ None → slice_get (code p e) place ≡ Some i → IsRefusedAt p e r.shapes f → IsFirstRefusal p e place f
  refused_at f i tables here refusal = subst (λ (k : ℕ). IsFirstRefusal p e k f) r.count (place_fails r.shapes tables (inside i here) r.are refusal)

  no_shape_by : (s : Shape) (f : Refusal) → IsMet (arriving p e r.shapes (length r.shapes)) s (Some f) → IsRefusedAt p e r.shapes f
  no_shape_by s f (inl h) = rw h.0 (not_reached h.1)
  no_shape_by s f (inr h) = rw h.0 (shapes_differ h.1)

  -- no shape arrives, or several that differ do
  pub no_shape : (s : Shape) (f : Refusal) (i : Instr) → table_refusal p e ≡ None → slice_get (code p e) place ≡ Some i → IsMet (arriving p e r.shapes (length r.shapes)) s (Some f) → IsFirstRefusal p e place f
  no_shape s f i tables here met = refused_at f i tables here (no_shape_by s f met)

  -- a check fails
  pub check_refused : (s : Shape) (f : Refusal) (i : Instr) → table_refusal p e ≡ None → slice_get (code p e) place ≡ Some i → IsShapeAmong s (arriving p e r.shapes (length r.shapes))
      → refused p e place i s ≡ Some f → IsFirstRefusal p e place f
  check_refused s f i tables here among fails =
      refused_at f i tables here (check_fails s i (at_place i here) among (ap (λ (k : ℕ). refused p e k i s) r.count ∙ fails))

  pub set_own : (s : Shape) → IsShapeAmong s (arriving p e r.shapes (length r.shapes)) → IsOwnSet p e s.set
  set_own s among = shape_own p e r.shapes s r.are among

  module _ (s : Shape) (i : Instr) (here : slice_get (code p e) place ≡ Some i) (among : IsShapeAmong s (arriving p e r.shapes (length r.shapes))) (fits : refused p e place i s ≡ None) where
    fits_here : refused p e (length r.shapes) i s ≡ None
    fits_here = ap (λ (k : ℕ). refused p e k i s) r.count ∙ fits

    kept_next : (gone : Arrival) (new : List Arrival) → JoinsEach (set old place gone) new (jumps_to i) (left p i s) → (m : ℕ) (b : Arrival) → length (r.shapes ++ s ∷ []) ≤ m → slice_get new m ≡ Some b
        → (jumped : List Shape) × (arriving p e (r.shapes ++ s ∷ []) m ≡ jumped ++ brought_to (along i (left p i s)) (length (r.shapes ++ s ∷ [])) m) × Describes b jumped
    kept_next gone new joins m b le got =
        let more = length_push r.shapes s in
        let from = joined_each (jumps_to i) (set old place gone) new (left p i s) m b joins got in
        let at_old : slice_get old m ≡ Some from.0 = sym (set_other old place m gone (omega (arith, r.count, more, le))) ∙ from.1 in
        let before = r.kept.each m from.0 (omega (arith, more, le)) at_old in
        let none : brought_to flow (length r.shapes) m ≡ [] = rw (ne_eqb (length r.shapes) m (λ e. omega (arith, e, more, le))) refl in
        let old_is : arriving p e r.shapes m ≡ before.0 = before.1 ∙ ap (λ (xs : List Shape). before.0 ++ xs) none ∙ append-nil before.0 in
        let next : arriving p e (r.shapes ++ s ∷ []) m ≡ before.0 ++ (toward m (jumps_to i) (left p i s) ++ brought_to (along i (left p i s)) (length r.shapes + 1) m) =
        arriving-push p e r.shapes i s m (at_place i here) ∙ rw (old_is, split_targets (length r.shapes) m i (left p i s)) refl in (
          before.0 ++ toward m (jumps_to i) (left p i s),
          next ∙ sym (append_assoc before.0 (toward m (jumps_to i) (left p i s)) (brought_to (along i (left p i s)) (length r.shapes + 1) m))
              ∙ ap (λ (k : ℕ). (before.0 ++ toward m (jumps_to i) (left p i s)) ++ brought_to (along i (left p i s)) k m) (sym more),
          from.2 before.0 before.2,
        )

    -- the next place is reached
    pub next_reached : (gone : Arrival) (new : List Arrival) (after : Flow) → JoinsEach (set old place gone) new (jumps_to i) (left p i s) → after.shape ≡ left p i s → after.falls ≡ goes_on i → Reached p e (place + 1) new after
    unfolding along
    next_reached gone new after joins shape falls =
        let same : after ≡ along i (left p i s) = rw (← shape, ← falls) refl in
        rw same (record {
          shapes = r.shapes ++ s ∷ [];
          count = omega (arith, length_push r.shapes s, r.count);
          are = AreShapes-push p e r.shapes i s (at_place i here) among fits_here r.are;
          kept = record { each = kept_next gone new joins };
        })

    -- the stack after an instruction that passed is at most 64 deep
    pub shallow : length (kinds_after p i s.kinds) ≤ 64
    shallow = ltb-false 64 (length (kinds_after p i s.kinds)) (passed_from p e place i s fits).deep

weaker : (n len : ℕ) (i : Instr) → AllByRecursion (IsOnwards n len) (targets n i) → AllByRecursion (λ t. t < len) (jumps_to i)
weaker n len (op.Jump d) h = (h.0.1, tt)
weaker n len (op.JumpIf d) h = (h.1.0.1, tt)
weaker n len op.End h = tt
weaker n len _ h = tt

-- an instruction that passed jumps to a place inside the code
pub jumps_within : (p : Parts) (e n : ℕ) (i : Instr) (s : Shape) (old : List Arrival) (gone : Arrival) → length old ≡ length (code p e) → refused p e n i s ≡ None
    → All (λ t. t < length (set old n gone)) (jumps_to i)
jumps_within p e n i s old gone long fits =
    rw (length-set old n gone, long) (All-from_recursion (λ t. t < length (code p e)) (jumps_to i) (weaker n (length (code p e)) i (passed_from p e n i s fits).onwards))

-- a value that was read from a place and moved
pub moved_at : {A : Type 0} (xs : List A) (i n : ℕ) (x y : A) → i < n → n ≡ length xs → y ≡ get_or xs i y → x ≡ y → slice_get xs i ≡ Some x
moved_at xs i n x y lt len read moved = slice_get_read xs n i y len lt read ∙ ap (λ z. Some z) (sym moved)
