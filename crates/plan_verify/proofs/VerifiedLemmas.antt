-- The verdict on all edges.
use Rattle.std.proofs.Common.{◌≡◌, ℕ, ◌+◌, ◌*◌, ◌<◌, ◌≤◌, length, Option, Some, None, refl, sym, ap, ◌∙◌, subst, arith, inl, inr}
use Rattle.std.specs.Prelude.{◌⊎◌, slice_get}
use Rattle.std.proofs.lemmas.Bool.{cases_lt}
use Rattle.plan_image.specs.declared.image.Edge.{Edge}
use Rattle.plan_image.specs.declared.image.Parts.{Parts}
use Rattle.plan_verify.specs.declared.fault.Refusal.{Refusal}
use Rattle.plan_verify.specs.declared.fault.VerifyFault.{VerifyFault}
use Rattle.plan_verify.specs.declared.fault.VerifyFault.TheVariants as fault
use Rattle.plan_verify.specs.Shape.{table_refusal, table_refusal_of}
use Rattle.plan_verify.specs.WellShaped.{IsShapedEdge, IsWellShaped, IsRefused, edge_fails, all_fail}
use Rattle.plan_verify.specs.Verdict.{AreGood, AreShapedBetween, IsEdgeFault, IsPartFault, IsVerifyFault}
use Rattle.plan_verify.specs.Budget.{budget_of_first}
use Rattle.plan_verify.proofs.ShapesLemmas.{refused_has_none}

-- the refusal of the tables of an edge that exists
pub table_refusal_is : (p : Parts) (e : ℕ) (x : Edge) → slice_get p.edges e ≡ Some x → table_refusal p e ≡ table_refusal_of p e (Some x)
unfolding table_refusal
table_refusal_is p e x here = ap (λ (o : Option Edge). table_refusal_of p e o) here

-- a refused image isn't well shaped
pub refused_is_not : (p : Parts) (e place : ℕ) (r : Refusal) → IsRefused p e place r → IsWellShaped p → ⊥
refused_is_not p e place r (edge_fails lt before first) shaped = refused_has_none p e place r first (shaped.edges e lt)
refused_is_not p _ _ r (all_fail before fails) shaped = differ (sym fails ∙ shaped.tables)
  where
    differ : ◌≡◌ {A = Option Refusal} (Some r) None → ⊥
    differ e = cc

pub fault_is_true : (p : Parts) (f : VerifyFault) → IsVerifyFault p f → (f ≡ fault.Memory → ⊥) → IsWellShaped p → ⊥
fault_is_true p fault.Memory is other shaped = other refl
fault_is_true p (fault.Refused r e place) is other shaped = refused_is_not p e place r is shaped

-- ---- some edges

-- a fault of an edge after some that are shaped
pub part_fault : (p : Parts) (from to e : ℕ) (f : VerifyFault) → from ≤ e → e < to → AreShapedBetween p from e → IsEdgeFault p e f → IsPartFault p from to f
part_fault p from to e fault.Memory le lt before is = tt
part_fault p from to e (fault.Refused r d place) le lt before is = rw is.0 (le, lt, before, is.1)

-- all of these edges were checked
pub part_done : (p : Parts) (from to n b : ℕ) → n ≤ to → to ≤ n → AreShapedBetween p from n → b + budget_of_first p from ≡ budget_of_first p n → b + from * 268435456 ≤ n * 268435456 → AreGood p from to b
part_done p from to n b below above shaped known small =
    let same : n ≡ to = omega (arith, below, above) in
    record {
      shaped = subst (λ (k : ℕ). AreShapedBetween p from k) same shaped;
      known = known ∙ ap (budget_of_first p) same;
      small = omega (arith, small, same);
    }

-- a fault of the first half
pub low_fault : (p : Parts) (from middle to : ℕ) (f : VerifyFault) → middle ≤ to → IsPartFault p from middle f → IsPartFault p from to f
low_fault p from middle to fault.Memory le is = tt
low_fault p from middle to (fault.Refused r e place) le is = let lt = is.1 in (is.0, omega (arith, lt, le), is.2, is.3)

both_shaped : (p : Parts) (from middle to : ℕ) → AreShapedBetween p from middle → AreShapedBetween p middle to → AreShapedBetween p from to
both_shaped p from middle to low high e lt le = by (cases_lt e middle)
  where
    by : (e < middle) ⊎ (middle ≤ e) → IsShapedEdge p e
    by (inl h) = low e h le
    by (inr h) = high e lt h

-- a fault of the second half, after a good first half
pub high_fault : (p : Parts) (from middle to b : ℕ) (f : VerifyFault) → from ≤ middle → AreGood p from middle b → IsPartFault p middle to f → IsPartFault p from to f
high_fault p from middle to b fault.Memory le good is = tt
high_fault p from middle to b (fault.Refused r e place) le good is =
    let above = is.0 in (omega (arith, le, above), is.1, both_shaped p from middle e good.shaped is.2, is.3)

-- both halves are good
pub both_good : (p : Parts) (from middle to a b : ℕ) → AreGood p from middle a → AreGood p middle to b → AreGood p from to (a + b)
both_good p from middle to a b low high =
    let known_low = low.known in
    let known_high = high.known in
    let small_low = low.small in
    let small_high = high.small in
    record {
      shaped = both_shaped p from middle to low.shaped high.shaped;
      known = omega (arith, known_low, known_high);
      small = omega (arith, small_low, small_high);
    }

-- ---- all edges

-- a fault of all edges
pub whole_fault : (p : Parts) (f : VerifyFault) → IsPartFault p 0 (length p.edges) f → IsVerifyFault p f
whole_fault p fault.Memory is = tt
whole_fault p (fault.Refused r e place) is = edge_fails is.1 (λ d lt. is.2 d lt (omega arith)) is.3
