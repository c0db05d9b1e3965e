-- Shapes of code, built from left to right.
use Rattle.std.proofs.Common.{◌≡◌, ℕ, zero, suc, ◌+◌, ◌<◌, ◌≤◌, Bool, true, false, List, [], ◌∷◌, ◌++◌, length, Some, None, refl, sym, ap, subst, ◌∙◌, arith, append_assoc, append-nil}
use Rattle.std.specs.Prelude.{◌||◌, nat_le, if◌then◌else◌, slice_get}
use Rattle.std.specs.List.{AllByRecursion}
use Rattle.std.proofs.lemmas.Bool.{ne_eqb, leb-false}
use Rattle.plan_image.specs.declared.body.Instr.{Instr}
use Rattle.plan_image.specs.declared.body.Instr.TheVariants as op
use Rattle.plan_image.specs.declared.image.Parts.{Parts}
use Rattle.plan_image.specs.Code.{code}
use Rattle.plan_verify.specs.declared.kinds.Shape.{Shape}
use Rattle.plan_verify.specs.declared.fault.Refusal.{Refusal}
use Rattle.plan_verify.specs.Shape.{left, targets, refused, first_of, checks, bad_jump}
use Rattle.plan_verify.specs.WellShaped.{toward, arriving_from, begins, arriving, IsShapeAmong, AreShapes}

pub or_false : (a b : Bool) → (a || b) ≡ false → (a ≡ false) × (b ≡ false)
or_false true b h = absurd cc
or_false false b h = (refl, h)

pub all_pass : (cs : List (Bool × Refusal)) → first_of cs ≡ None → AllByRecursion (λ c. c.0 ≡ false) cs
all_pass [] e = tt
all_pass ((true, r) ∷ cs) e = absurd cc
all_pass ((false, r) ∷ cs) e = (refl, all_pass cs e)

module _ (p : Parts) (e : ℕ) where
  -- code from a place on has these shapes; so_far is the shapes that arrive at each place from the code before
  abbrev pub Good : ℕ → List Instr → List Shape → (ℕ → List Shape) → Type 0
  Good at [] [] so_far = Unit {0}
  Good at (i ∷ is) (s ∷ shapes) so_far = IsShapeAmong s (so_far at) × (refused p e at i s ≡ None) × Good (at + 1) is shapes (λ n. so_far n ++ toward n (targets at i) (left p i s))
  Good at _ _ so_far = ⊥

  pub jump_ok : (at : ℕ) (i : Instr) (s : Shape) → refused p e at i s ≡ None → bad_jump (length (code p e)) at i ≡ false
  unfolding refused
  jump_ok at i s h = (all_pass (checks p e at i s) h).1.0

  pub toward_one : (n d : ℕ) (s : Shape) → n < d → toward n (d ∷ []) s ≡ []
  toward_one n d s lt = ap (λ (b : Bool). if b then s ∷ [] else []) (ne_eqb d n (λ same. let x : n < n = subst (λ (m : ℕ). n < m) same lt in omega (arith, x)))

  -- no jump goes backwards or to its own place
  pub none_back : (at n : ℕ) (i : Instr) (s : Shape) → n ≤ at → bad_jump (length (code p e)) at i ≡ false → toward n (targets at i) s ≡ []
  none_back at n op.End s le h = refl
  none_back at n (op.Jump d) s le h = let o = or_false (nat_le d at) (nat_le (length (code p e)) d) h in let lt : at < d = leb-false d at o.0 in toward_one n d s (omega (arith, lt, le))
  none_back at n (op.JumpIf d) s le h =
      let o = or_false (nat_le d at) (nat_le (length (code p e)) d) h in
      let lt : at < d = leb-false d at o.0 in
      ap (λ (b : Bool). if b then s ∷ toward n (d ∷ []) s else toward n (d ∷ []) s) (ne_eqb (at + 1) n (λ same. let x : n ≤ at = le in omega (arith, x, same))) ∙ toward_one n d s (omega (arith, lt, le))
  none_back at n _ s le h = toward_one n (at + 1) s (omega (arith, le))

  pub none_from : (at n : ℕ) (is : List Instr) (shapes : List Shape) (so_far : ℕ → List Shape) → n ≤ at → Good at is shapes so_far → arriving_from p at is shapes n ≡ []
  none_from at n [] shapes so_far le good = refl
  none_from at n (i ∷ is) [] so_far le good = refl
  none_from at n (i ∷ is) (s ∷ shapes) so_far le good =
      ap (λ (xs : List Shape). xs ++ arriving_from p (at + 1) is shapes n) (none_back at n i (left p i s) le (jump_ok at i s good.1))
      ∙ none_from (at + 1) n is shapes (λ m. so_far m ++ toward m (targets at i) (left p i s)) (omega (arith, le)) good.2

  pub good_each : (at : ℕ) (is : List Instr) (shapes : List Shape) (so_far : ℕ → List Shape) → Good at is shapes so_far → (k : ℕ) (i : Instr) (s : Shape) → slice_get is k ≡ Some i → slice_get shapes k ≡ Some s
      → IsShapeAmong s (so_far (at + k) ++ arriving_from p at is shapes (at + k)) × (refused p e (at + k) i s ≡ None)
  good_each at [] shapes so_far good k i s here shape = absurd cc
  good_each at (j ∷ js) [] so_far good k i s here shape = absurd cc
  good_each at (j ∷ js) (t ∷ ts) so_far good zero i s here shape =
      let a : at + 0 ≡ at = omega arith in
      let i_is : j ≡ i = cc in
      let s_is : t ≡ s = cc in
      let none : arriving_from p at (j ∷ js) (t ∷ ts) at ≡ [] = none_from at at (j ∷ js) (t ∷ ts) so_far (omega arith) good in
      subst (λ (n : ℕ). IsShapeAmong s (so_far n ++ arriving_from p at (j ∷ js) (t ∷ ts) n) × (refused p e n i s ≡ None)) (sym a) (
        subst (λ (xs : List Shape). IsShapeAmong s (so_far at ++ xs)) (sym none) (subst (λ (xs : List Shape). IsShapeAmong s xs) (sym (append-nil (so_far at))) (subst (λ (x : Shape). IsShapeAmong x (so_far at)) s_is good.0)),
        subst (λ (x : Instr). refused p e at x s ≡ None) i_is (subst (λ (x : Shape). refused p e at j x ≡ None) s_is good.1),
      )
  good_each at (j ∷ js) (t ∷ ts) so_far good (suc k) i s here shape =
      let a : at + 1 + k ≡ at + suc k = omega arith in
      let h = good_each (at + 1) js ts (λ m. so_far m ++ toward m (targets at j) (left p j t)) good.2 k i s here shape in
      subst (λ (n : ℕ). IsShapeAmong s (so_far n ++ (toward n (targets at j) (left p j t) ++ arriving_from p (at + 1) js ts n)) × (refused p e n i s ≡ None)) a
      (subst (λ (xs : List Shape). IsShapeAmong s xs) (append_assoc (so_far (at + 1 + k)) (toward (at + 1 + k) (targets at j) (left p j t)) (arriving_from p (at + 1) js ts (at + 1 + k))) h.0, h.1)

  pub good_long : (at : ℕ) (is : List Instr) (shapes : List Shape) (so_far : ℕ → List Shape) → Good at is shapes so_far → length shapes ≡ length is
  good_long at [] [] so_far good = refl
  good_long at [] (s ∷ shapes) so_far good = absurd good
  good_long at (i ∷ is) [] so_far good = absurd good
  good_long at (i ∷ is) (s ∷ shapes) so_far good = ap suc (good_long (at + 1) is shapes (λ m. so_far m ++ toward m (targets at i) (left p i s)) good.2)

  -- the shapes that were built from left to right are the edge's shapes
  pub are_shapes : (shapes : List Shape) → Good 0 (code p e) shapes begins → AreShapes p e shapes
  unfolding arriving
  are_shapes shapes good = record {
    within = (let h = good_long 0 (code p e) shapes begins good in omega (arith, h));
    each = λ place i s here shape.
        let z : 0 + place ≡ place = omega arith in
        subst (λ (n : ℕ). IsShapeAmong s (begins n ++ arriving_from p 0 (code p e) shapes n) × (refused p e n i s ≡ None)) z (good_each 0 (code p e) shapes begins good place i s here shape);
  }
