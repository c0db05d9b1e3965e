-- Shapes of the first places: adding one, removing one, and that they are unique.
use Rattle.std.proofs.Common.{◌≡◌, ℕ, zero, suc, ◌+◌, ◌-◌, ◌<◌, ◌≤◌, Bool, true, false, cond, eqb, List, [], ◌∷◌, ◌++◌, length, get_or, Option, Some, None, All, refl, sym, ap, subst, ◌∙◌, append_assoc, arith, inl, inr, add-zero}
use Rattle.std.specs.Prelude.{Contains, slice_get}
use Rattle.std.specs.List.{AllByRecursion}
use Rattle.std.proofs.lemmas.Bool.{cases_lt, ne_eqb}
use Rattle.std.proofs.lemmas.List.{append-nil, length_push}
use Rattle.std.proofs.lemmas.List.Elements.{All-append}
use Rattle.std.proofs.lemmas.Option.{slice_get_within}
use Rattle.plan_image.specs.declared.body.Instr.{Instr}
use Rattle.plan_image.specs.declared.body.Instr.TheVariants as op
use Rattle.plan_image.specs.declared.image.Parts.{Parts}
use Rattle.plan_image.specs.Code.{code}
use Rattle.plan_verify.specs.declared.kinds.Shape.{Shape}
use Rattle.plan_verify.specs.declared.fault.Refusal.{Refusal}
use Rattle.plan_verify.specs.Tables.{owns}
use Rattle.plan_verify.specs.Shape.{left, targets, refused, bad_slot}
use Rattle.plan_verify.specs.WellShaped.{at_start, toward, arriving_from, begins, arriving, IsShapeAmong, AreShapes, IsShapedEdge, IsRefusedAt, not_reached, shapes_differ, check_fails, IsFirstRefusal, tables_fail, no_code, place_fails}
use Rattle.plan_verify.specs.OwnSet.{IsOwnSet}
use Rattle.plan_verify.proofs.ListLemmas.{some_is, get_inside, not_false}
use Rattle.plan_verify.proofs.FitsLaw.{IsOnwards, passed_from}
use Rattle.plan_verify.proofs.OwnSetLemmas.{with_own, none_own}

-- ---- lists

pub front_at : {A : Type 0} (xs ys : List A) (k : ℕ) → k < length xs → slice_get (xs ++ ys) k ≡ slice_get xs k
front_at [] ys k lt = absurd (omega arith)
front_at (x ∷ xs) ys zero lt = refl
front_at (x ∷ xs) ys (suc k) lt = front_at xs ys k (omega arith)

pub last_at : {A : Type 0} (xs : List A) (y : A) → slice_get (xs ++ y ∷ []) (length xs) ≡ Some y
last_at [] y = refl
last_at (x ∷ xs) y = last_at xs y

-- ---- the shapes that arrive from one more place

pub arriving_none : (p : Parts) (at : ℕ) (is : List Instr) (m : ℕ) → arriving_from p at is [] m ≡ []
arriving_none p at [] m = refl
arriving_none p at (i ∷ is) m = refl

no_instr : (shapes : List Shape) (i : Instr) → slice_get {X = Instr} [] (length shapes) ≡ Some i → ⊥
no_instr shapes i e = cc

arriving_from-push : (p : Parts) (at : ℕ) (is : List Instr) (shapes : List Shape) (i : Instr) (s : Shape) (m : ℕ) → slice_get is (length shapes) ≡ Some i
    → arriving_from p at is (shapes ++ s ∷ []) m ≡ arriving_from p at is shapes m ++ toward m (targets (at + length shapes) i) (left p i s)
arriving_from-push p at [] shapes i s m e = absurd (no_instr shapes i e)
arriving_from-push p at (j ∷ js) [] i s m e =
    rw (arriving_none p (at + 1) js m, add-zero, some_is j i e) (append-nil (toward m (targets at i) (left p i s)))
arriving_from-push p at (j ∷ js) (t ∷ ts) i s m e =
    let k : at + 1 + length ts ≡ at + suc (length ts) = omega arith in
    let step : arriving_from p (at + 1) js (ts ++ s ∷ []) m ≡ arriving_from p (at + 1) js ts m ++ toward m (targets (at + suc (length ts)) i) (left p i s) = rw (← k) (arriving_from-push p (at + 1) js ts i s m e) in
    ap (λ (xs : List Shape). toward m (targets at j) (left p j t) ++ xs) step ∙ sym (append_assoc (toward m (targets at j) (left p j t)) (arriving_from p (at + 1) js ts m) (toward m (targets (at + suc (length ts)) i) (left p i s)))

-- the shapes that arrive if one more place has a shape
pub arriving-push : (p : Parts) (e : ℕ) (shapes : List Shape) (i : Instr) (s : Shape) (m : ℕ) → slice_get (code p e) (length shapes) ≡ Some i
    → arriving p e (shapes ++ s ∷ []) m ≡ arriving p e shapes m ++ toward m (targets (length shapes) i) (left p i s)
unfolding arriving
arriving-push p e shapes i s m h =
    let k : 0 + length shapes ≡ length shapes = omega arith in
    let step : arriving_from p 0 (code p e) (shapes ++ s ∷ []) m ≡ arriving_from p 0 (code p e) shapes m ++ toward m (targets (length shapes) i) (left p i s) = rw (← k) (arriving_from-push p 0 (code p e) shapes i s m h) in
    ap (λ (xs : List Shape). begins m ++ xs) step ∙ sym (append_assoc (begins m) (arriving_from p 0 (code p e) shapes m) (toward m (targets (length shapes) i) (left p i s)))

-- no jump goes backwards
toward_none : (n len k : ℕ) (ts : List ℕ) (s : Shape) → k ≤ n → AllByRecursion (IsOnwards n len) ts → toward k ts s ≡ []
toward_none n len k [] s le h = refl
toward_none n len k (t ∷ ts) s le h =
    let differ : eqb t k ≡ false = ne_eqb t k (λ e. let lt = h.0.0 in omega (arith, e, lt)) in
    rw differ (toward_none n len k ts s le h.1)

module _ (p : Parts) (e : ℕ) where
  -- the shapes that arrive at the places that have shapes, and at the next one, stay the same
  same_before : (shapes : List Shape) (i : Instr) (s : Shape) → slice_get (code p e) (length shapes) ≡ Some i → refused p e (length shapes) i s ≡ None
      → (k : ℕ) → k ≤ length shapes → arriving p e (shapes ++ s ∷ []) k ≡ arriving p e shapes k
  same_before shapes i s here fits k le =
      let onwards = (passed_from p e (length shapes) i s fits).onwards in
      arriving-push p e shapes i s k here ∙ rw (toward_none (length shapes) (length (code p e)) k (targets (length shapes) i) (left p i s) le onwards) (append-nil (arriving p e shapes k))

  -- adds a shape
  pub AreShapes-push : (shapes : List Shape) (i : Instr) (s : Shape) → slice_get (code p e) (length shapes) ≡ Some i → IsShapeAmong s (arriving p e shapes (length shapes))
      → refused p e (length shapes) i s ≡ None → AreShapes p e shapes → AreShapes p e (shapes ++ s ∷ [])
  AreShapes-push shapes i s here among fits are =
      let same = same_before shapes i s here fits in
      let within = slice_get_within (code p e) (length shapes) i here in
      record {
        within = omega (arith, length_push shapes s, within);
        each = λ place j t at got.
            elim (cases_lt place (length shapes)) [
              | inl lt ↦
                  let before : slice_get shapes place ≡ Some t = sym (front_at shapes (s ∷ []) place lt) ∙ got in
                  rw (same place (omega arith)) (are.each place j t at before)
              | inr ge ↦
                  let short = slice_get_within (shapes ++ s ∷ []) place t got in
                  let is_last : place ≡ length shapes = omega (arith, length_push shapes s, short) in
                  let t-is : s ≡ t = some_is s t (sym (last_at shapes s) ∙ ap (λ (k : ℕ). slice_get (shapes ++ s ∷ []) k) (sym is_last) ∙ got) in
                  let j-is : i ≡ j = some_is i j (sym here ∙ ap (λ (k : ℕ). slice_get (code p e) k) (sym is_last) ∙ at) in
                  rw (is_last, ← t-is, ← j-is, same (length shapes) (omega arith)) (among, fits)
            ];
      }

-- ---- one shape fewer

among_is : (s t : Shape) (xs : List Shape) → IsShapeAmong s xs → Contains xs t → t ≡ s
among_is s t xs among there = sym there.2 ∙ among.alone there.0 t there.1

none_among : (s : Shape) (xs : List Shape) → xs ≡ [] → IsShapeAmong s xs → ⊥
none_among s xs e among = let lt = among.arrives.1 in omega (arith, lt, ap length e)

-- the place after some places has a shape and passes
record IsPassed (p : Parts) (e : ℕ) (shapes : List Shape) (s : Shape) : Type 0 where
  instr : Instr
  here : slice_get (code p e) (length shapes) ≡ Some instr
  among : IsShapeAmong s (arriving p e shapes (length shapes))
  fits : refused p e (length shapes) instr s ≡ None

split_last : (n : ℕ) (xs : List Shape) → length xs ≡ suc n → (ys : List Shape) × (s : Shape) × (xs ≡ ys ++ s ∷ []) × (length ys ≡ n)
split_last n [] len = absurd cc
split_last zero (x ∷ []) len = ([], x, refl, refl)
split_last zero (x ∷ y ∷ xs) len = absurd (omega (arith, len))
split_last (suc n) (x ∷ xs) len = let r = split_last n xs (omega (arith, len)) in (x ∷ r.0, r.1, ap (λ (zs : List Shape). x ∷ zs) r.2, ap suc r.3)

none_left : (xs : List Shape) → length xs ≡ 0 → [] ≡ xs
none_left [] len = refl
none_left (x ∷ xs) len = absurd cc

module _ (p : Parts) (e : ℕ) where
  AreShapes-pop : (shapes : List Shape) (s : Shape) → AreShapes p e (shapes ++ s ∷ []) → AreShapes p e shapes × IsPassed p e shapes s
  AreShapes-pop shapes s are =
      let more = length_push shapes s in
      let within = are.within in
      let at = get_inside (code p e) (length shapes) (omega arith) in
      let last = are.each (length shapes) at.0 s at.1 (last_at shapes s) in
      let same = same_before p e shapes at.0 s at.1 last.1 in (
        record {
          within = omega arith;
          each = λ place i t here got.
              let lt = slice_get_within shapes place t got in
              let both = are.each place i t here (front_at shapes (s ∷ []) place lt ∙ got) in
              (subst (λ (xs : List Shape). IsShapeAmong t xs) (same place (omega arith)) both.0, both.1);
        },
        record { instr = at.0; here = at.1; among = subst (λ (xs : List Shape). IsShapeAmong s xs) (same (length shapes) (omega arith)) last.0; fits = last.1 },
      )

  unique : (n : ℕ) (xs ys : List Shape) → length xs ≡ n → length ys ≡ n → AreShapes p e xs → AreShapes p e ys → xs ≡ ys
  unique zero xs ys lx ly ax ay = sym (none_left xs lx) ∙ none_left ys ly
  unique (suc n) xs ys lx ly ax ay =
      let sx = split_last n xs lx in
      let sy = split_last n ys ly in
      let px = AreShapes-pop sx.0 sx.1 (subst (AreShapes p e) sx.2 ax) in
      let py = AreShapes-pop sy.0 sy.1 (subst (AreShapes p e) sy.2 ay) in
      let fronts : sx.0 ≡ sy.0 = unique n sx.0 sy.0 sx.3 sy.3 px.0 py.0 in
      let among : IsShapeAmong sy.1 (arriving p e sx.0 (length sx.0)) = rw fronts (py.1).among in
      let lasts : sx.1 ≡ sy.1 = among_is sy.1 sx.1 (arriving p e sx.0 (length sx.0)) among ((px.1).among).arrives in
      sx.2 ∙ (let both : sx.0 ++ sx.1 ∷ [] ≡ sy.0 ++ sy.1 ∷ [] = rw (fronts, lasts) refl in both) ∙ sym sy.2

  -- the shapes of the places before one, and that it passes
  before : (k n : ℕ) (xs : List Shape) → length xs ≡ n + suc k → AreShapes p e xs → (front : List Shape) × (s : Shape) × (length front ≡ n) × AreShapes p e front × IsPassed p e front s
  before zero n xs len are =
      let l = split_last n xs (omega (arith, len)) in
      let pop = AreShapes-pop l.0 l.1 (subst (AreShapes p e) l.2 are) in
      (l.0, l.1, l.3, pop.0, pop.1)
  before (suc k) n xs len are =
      let l = split_last (n + suc k) xs (omega (arith, len)) in
      let pop = AreShapes-pop l.0 l.1 (subst (AreShapes p e) l.2 are) in
      before k n l.0 l.3 pop.0

  some_or_none : {r : Refusal} → ◌≡◌ {A = Option Refusal} (Some r) None → ⊥
  some_or_none e = cc

  stuck : (shapes : List Shape) (r : Refusal) (s : Shape) → IsRefusedAt p e shapes r → IsPassed p e shapes s → ⊥
  stuck shapes _ s (not_reached none) passed = none_among s (arriving p e shapes (length shapes)) none passed.among
  stuck shapes _ s (shapes_differ d) passed =
      d.4 (among_is s d.0 (arriving p e shapes (length shapes)) passed.among d.2 ∙ sym (among_is s d.1 (arriving p e shapes (length shapes)) passed.among d.3))
  stuck shapes _ s (check_fails t i here among fails) passed =
      let t-is : t ≡ s = among_is s t (arriving p e shapes (length shapes)) passed.among among.arrives in
      let i-is : i ≡ passed.instr = some_is i passed.instr (sym here ∙ passed.here) in
      let same : refused p e (length shapes) i t ≡ None = rw (t-is, i-is) passed.fits in
      some_or_none (sym fails ∙ same)

  -- a refused edge has no shapes
  pub refused_has_none : (place : ℕ) (r : Refusal) → IsFirstRefusal p e place r → IsShapedEdge p e → ⊥
  refused_has_none _ r (tables_fail fails) shaped = some_or_none (sym fails ∙ shaped.1.tables)
  refused_has_none _ r (no_code tables none) shaped = let lt = shaped.1.some in omega (arith, lt, ap length none)
  refused_has_none _ r (place_fails shapes tables lt are refusal) shaped =
      let full = shaped.0 in
      let len : length full ≡ length shapes + suc (length (code p e) - (length shapes + 1)) = let long = shaped.1.long in omega (arith, long, lt) in
      let b = before (length (code p e) - (length shapes + 1)) (length shapes) full len shaped.1.are in
      let same : b.0 ≡ shapes = unique (length shapes) b.0 shapes b.2 refl b.3 are in
      stuck shapes r b.1 refusal (subst (λ (xs : List Shape). IsPassed p e xs b.1) same b.4)

  -- ---- the own slots that are set

  abbrev HasOwnSet : Shape → Type 0
  HasOwnSet s = IsOwnSet p e s.set

  left_own : (i : Instr) (s : Shape) → bad_slot p e i ≡ false → HasOwnSet s → HasOwnSet (left p i s)
  unfolding left
  left_own (op.Store n) s ok own = with_own p e n s.set (not_false (owns p e n) ok) own
  left_own op.End s ok own = own
  left_own _ s ok own = own

  all_more : (b : Bool) (s : Shape) (xs : List Shape) → HasOwnSet s → All HasOwnSet xs → All HasOwnSet (cond b (s ∷ xs) xs)
  all_more true s xs own rest = λ k d lt. at_each k d lt
    where
      at_each : (k : ℕ) (d : Shape) → k < length (s ∷ xs) → HasOwnSet (get_or (s ∷ xs) k d)
      at_each zero d lt = own
      at_each (suc k) d lt = rest k d (omega (arith, lt))
  all_more false s xs own rest = rest

  toward_own : (m : ℕ) (ts : List ℕ) (s : Shape) → HasOwnSet s → All HasOwnSet (toward m ts s)
  toward_own m [] s own = λ k d lt. absurd (omega (arith, lt))
  toward_own m (t ∷ ts) s own = all_more (eqb t m) s (toward m ts s) own (toward_own m ts s own)

  begins_own : (m : ℕ) → All HasOwnSet (begins m)
  begins_own zero = λ k d lt. first k d lt
    where
      first : (k : ℕ) (d : Shape) → k < 1 → HasOwnSet (get_or (at_start ∷ []) k d)
      first zero d lt = none_own p e
      first (suc k) d lt = absurd (omega (arith, lt))
  begins_own (suc m) = λ k d lt. absurd (omega (arith, lt))

  arriving_own : (n : ℕ) (shapes : List Shape) → length shapes ≡ n → AreShapes p e shapes → (m : ℕ) → All HasOwnSet (arriving p e shapes m)
  unfolding arriving
  arriving_own zero shapes len are m =
      subst (λ (xs : List Shape). All HasOwnSet (begins m ++ arriving_from p 0 (code p e) xs m)) (none_left shapes len)
      (rw (arriving_none p 0 (code p e) m, append-nil (begins m)) (begins_own m))
  arriving_own (suc n) shapes len are m =
      let l = split_last n shapes len in
      let pop = AreShapes-pop l.0 l.1 (subst (AreShapes p e) l.2 are) in
      let before = arriving_own n l.0 l.3 pop.0 in
      let passed = pop.1 in
      let at = passed.among.arrives in
      let own : HasOwnSet l.1 = subst HasOwnSet at.2 (before (length l.0) at.0 l.1 at.1) in
      let leaves = toward_own m (targets (length l.0) passed.instr) (left p passed.instr l.1) (left_own passed.instr l.1 (passed_from p e (length l.0) passed.instr l.1 passed.fits).slot own) in
      subst (λ (xs : List Shape). All HasOwnSet (arriving p e xs m)) (sym l.2)
      (subst (λ (xs : List Shape). All HasOwnSet xs) (sym (arriving-push p e l.0 passed.instr l.1 m passed.here))
      (All-append HasOwnSet (arriving p e l.0 m) (toward m (targets (length l.0) passed.instr) (left p passed.instr l.1)) (before m) leaves))

  -- the set slots of the shape that arrives at the next place are own slots
  pub shape_own : (shapes : List Shape) (s : Shape) → AreShapes p e shapes → IsShapeAmong s (arriving p e shapes (length shapes)) → HasOwnSet s
  shape_own shapes s are among =
      let at = among.arrives in
      subst HasOwnSet at.2 (arriving_own (length shapes) shapes refl are (length shapes) at.0 s at.1)
