use Rattle.std.proofs.Common.{List, length, sym, ap, ◌∙◌, arith}
use Rattle.std.specs.Prelude.{slice_get}
use Rattle.std.proofs.lemmas.Option.{slice_get-get_or}
use Rattle.plan_image.specs.declared.image.Slot.{Slot}
use Rattle.plan_verify.proofs.OwnSlotsLemmas.{next_counted, all_counted}
use Rattle.plan_verify.proofs.place_checks.own_slots_of_all.Goals as goal

pub count_slot-requires : goal.count_slot-requires
count_slot-requires c =
    λ e own at.
    let few = (c.loop-slot.invariant.each e own at).0 in
    let here = c.loop-slot-test.true in
    let most = c.requires in
    omega (arith, few, here, most, ap length c.as_slice-slot-items.ensures)

pub loop-slot-preserved : goal.loop-slot-preserved
loop-slot-preserved c =
    next_counted c.args.parts.now c.loop-slot.slot-index _ c.loop-slot.edges.items c.count_slot.new.edges.items
    (ap (λ (xs : List Slot). slice_get xs c.loop-slot.slot-index) (sym c.as_slice-slot-items.ensures) ∙ slice_get-get_or c.as_slice-slot-items.result.now c.loop-slot.slot-index _ c.loop-slot-test.true)
    c.count_slot.ensures
    c.loop-slot.invariant

pub returns : goal.returns
returns c =
    let done = c.loop-slot-test.false in
    all_counted c.args.parts.now c.loop-slot.slot-index c.loop-slot.edges.items (omega (arith, done, ap length c.as_slice-slot-items.ensures)) c.loop-slot.invariant
