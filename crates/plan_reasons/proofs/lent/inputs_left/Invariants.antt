use Rattle.std.proofs.Common.{◌≡◌, ◌++◌, drop, map}
use Rattle.plan_reasons.specs.Lent.{input_left}
use Rattle.plan_reasons.proofs.lent.inputs_left.Given as goal

abbrev pub invariant-loop-input : goal.invariant-loop-input
invariant-loop-input g l =
    let left = input_left (g.L.LentSlots.stamp_left l.lent) (g.L.LentSlots.flag_left l.lent) in
    l.left.items ++ map left (drop l.input-index l.inputs) ≡ map left l.inputs
