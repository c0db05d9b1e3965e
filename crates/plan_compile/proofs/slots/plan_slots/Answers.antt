use Rattle.std.proofs.Common.{◌≡◌, ◌<◌, ◌≤◌, ◌+◌, ◌∙◌, ◌++◌, ◌∷◌, [], List, ℕ, Some, length, ap, refl, arith}
use Rattle.std.specs.Prelude.{slice_get}
use Rattle.std.proofs.lemmas.Option.{slice_get_read}
use Rattle.plan_compile.specs.declared.slot_pattern.SlotPattern.{SlotPattern}
use Rattle.plan_compile.specs.Builds.{Build}
use Rattle.plan_compile.specs.OutputTable.{filled}
use Rattle.plan_compile.specs.Slots.{kinds_by, newest_by, made, outputs_by, own_kinds, own_len, owned, slot_count}
use Rattle.plan_compile.proofs.PlanLemmas.{slots_step, newest_step, room_for, table_step}
use Rattle.plan_compile.proofs.slots.plan_slots.Goals as goal

pub loop-number-preserved : goal.loop-number-preserved
loop-number-preserved c =
    let xs = c.args.builds.now in
    let n = c.loop-number.number in
    let x : Build = c.index-builds-number.result in
    let old = c.loop-number.slots.items in
    let lt : n < length xs = omega (arith, c.loop-number-test.true) in
    let at : slice_get xs n ≡ Some x = slice_get_read xs (length xs) n x refl lt c.index-builds-number.is in
    let grown : c.add_slots.new.slots.items ≡ old ++ owned c.word.result (own_kinds x) =
    c.in_ok-slot.ensures.slots ∙ ap (λ (f : SlotPattern). old ++ owned c.word.result (kinds_by f c.outputs.result.now)) c.form_of.ensures
    ∙ ap (λ (fs : List ℕ). old ++ owned c.word.result (kinds_by (Rattle.plan_compile.specs.Slots.form_of x) fs)) c.outputs.ensures in
    let laid : c.add_slots.new.table.items ≡ filled c.loop-number.table.items (made (length old) x) =
    c.in_ok-slot.ensures.table ∙ ap (λ (f : SlotPattern). filled c.loop-number.table.items (outputs_by f (length old) c.outputs.result.now)) c.form_of.ensures
    ∙ ap (λ (fs : List ℕ). filled c.loop-number.table.items (outputs_by (Rattle.plan_compile.specs.Slots.form_of x) (length old) fs)) c.outputs.ensures in
    let pushed : c.push.new.self.items ≡ c.loop-number.newest.items ++ newest_by (Rattle.plan_compile.specs.Slots.form_of x) (length old) ∷ [] =
    c.in_ok-push.ensures.items ∙ ap (λ (k : ℕ). c.loop-number.newest.items ++ k ∷ []) (c.in_ok-slot.ensures.newest ∙ ap (λ (f : SlotPattern). newest_by f (length old)) c.form_of.ensures) in (
      slots_step xs n c.word.result x old c.add_slots.new.slots.items _ at c.word.ensures grown c.loop-number.invariant.0,
      newest_step xs n c.word.result x old c.add_slots.new.slots.items c.loop-number.newest.items c.push.new.self.items _ at grown pushed c.loop-number.invariant.1,
      table_step xs n c.word.result x old c.add_slots.new.slots.items c.loop-number.table.items c.add_slots.new.table.items _ at grown laid c.loop-number.invariant.2,
    )

pub add_slots-requires : goal.add_slots-requires
add_slots-requires c =
    let xs = c.args.builds.now in
    let n = c.loop-number.number in
    let x : Build = c.index-builds-number.result in
    let old = c.loop-number.slots.items in
    let lt : n < length xs = omega (arith, c.loop-number-test.true) in
    let at : slice_get xs n ≡ Some x = slice_get_read xs (length xs) n x refl lt c.index-builds-number.is in
    let room : length old + own_len x ≤ slot_count xs = room_for xs n x old at c.loop-number.invariant.0 in
    let kinds : length (kinds_by c.form_of.result c.outputs.result.now) ≡ own_len x =
    ap (λ (f : SlotPattern). length (kinds_by f c.outputs.result.now)) c.form_of.ensures ∙ ap (λ (fs : List ℕ). length (kinds_by (Rattle.plan_compile.specs.Slots.form_of x) fs)) c.outputs.ensures in
    omega (arith, room, kinds, c.requires.count)
