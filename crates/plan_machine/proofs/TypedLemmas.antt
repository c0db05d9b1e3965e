-- Slots and edges that agree with their kinds and shapes.
use Rattle.std.proofs.Common.{◌≡◌, ℕ, ◌<◌, true, List, length, Option, Some, None, refl, sym, ap, ◌∙◌, eqb, arith, inl, inr}
use Rattle.std.specs.Prelude.{◌⊎◌, slice_get, slice_set}
use Rattle.std.proofs.lemmas.Bool.{cases_eq}
use Rattle.std.proofs.lemmas.Option.{slice_get_within}
use Rattle.plan_image.specs.declared.image.Slot.{Slot}
use Rattle.plan_image.specs.declared.image.Parts.{Parts}
use Rattle.plan_image.specs.Code.{code}
use Rattle.plan_verify.specs.declared.value.Value.{Value}
use Rattle.plan_verify.specs.declared.kinds.Shape.{Shape}
use Rattle.plan_verify.specs.Tables.{owns, owned_by, slot_kind}
use Rattle.plan_verify.specs.Turn.{kind_of, Slots, is_filled, is_set, begun}
use Rattle.plan_verify.specs.WellShaped.{at_start, arriving, AreAllShapes}
use Rattle.plan_verify.specs.Sound.{AreTyped, IsTyped}
use Rattle.plan_machine.proofs.ListLemmas.{some_is, get_inside, get_same, get_other, set_length}

pub owned_is : (e : ℕ) (o : Option Slot) → owned_by e o ≡ true → (slot : Slot) × (o ≡ Some slot) × (eqb slot.owner e ≡ true)
owned_is e (Some slot) h = (slot, refl, h)
owned_is e None h = absurd cc

-- a slot that was set, or is set now, is set
pub set_stays : (slots : Slots) (n k : ℕ) (v : Value) → n < length slots → (n ≡ k) ⊎ (is_set slots k ≡ true) → is_set (slice_set slots n (Some v)) k ≡ true
set_stays slots n k v short (inl same) = ap is_filled (ap (slice_get (slice_set slots n (Some v))) (sym same) ∙ get_same slots n (Some v) short)
set_stays slots n k v short (inr old) =
    elim (cases_eq n k) [
      | inl same ↦ ap is_filled (ap (slice_get (slice_set slots n (Some v))) (sym same) ∙ get_same slots n (Some v) short)
      | inr ne ↦ ap is_filled (get_other slots n k (Some v) ne) ∙ old
    ]

-- setting an own slot leaves the slots typed
pub still_typed : (p : Parts) (e : ℕ) (slots : Slots) (s : ℕ) (v : Value) → AreTyped p slots → owns p e s ≡ true → kind_of v ≡ slot_kind p s → AreTyped p (slice_set slots s (Some v))
still_typed p e slots s v good own kind =
    let o = owned_is e (slice_get p.slots s) own in
    let short : s < length slots = omega (arith, slice_get_within p.slots s o.0 o.1, good.table) in
    record {
      table = set_length slots s (Some v) ∙ good.table;
      kinds = λ k w at. elim (cases_eq s k) [
        | inl same ↦
            let is : Some v ≡ Some w = some_is (Some v) (Some w) (sym (get_same slots s (Some v) short) ∙ ap (slice_get (slice_set slots s (Some v))) same ∙ at) in
            sym (ap kind_of (some_is v w is)) ∙ kind ∙ ap (slot_kind p) same
        | inr ne ↦ good.kinds k w (sym (get_other slots s k (Some v) ne) ∙ at)
      ];
    }

-- the first place has the empty shape
pub first_shape : (p : Parts) (e : ℕ) (shapes : List Shape) → AreAllShapes p e shapes → slice_get shapes 0 ≡ Some at_start
unfolding arriving
first_shape p e shapes all =
    let t = get_inside shapes 0 (let some = all.some in omega (arith, all.long, some)) in
    let j = get_inside (code p e) 0 all.some in
    let among = (all.are.each 0 j.0 t.0 j.1 t.1).0 in
    t.1 ∙ ap (λ (x : Shape). Some x) (sym (among.alone 0 at_start (omega arith)))

-- an edge at its first place is typed
pub begun_typed : (p : Parts) (e : ℕ) (shapes : List Shape) (slots : Slots) → AreAllShapes p e shapes → IsTyped p e shapes slots begun
begun_typed p e shapes slots all =
    record {
      shape = at_start;
      here = first_shape p e shapes all;
      inside = (let i = get_inside (code p e) 0 all.some in rw i.1 refl);
      kinds = refl;
      holding = refl;
      set = λ s h. absurd (cc);
      awaits = λ loud. absurd (cc);
    }
