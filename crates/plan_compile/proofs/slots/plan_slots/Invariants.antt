use Rattle.std.proofs.Common.{◌≡◌, ◌++◌, drop, length, replicate, None, zero}
use Rattle.plan_compile.specs.OutputTable.{filled}
use Rattle.plan_compile.specs.Slots.{all_made, newest_from, slots_from}
use Rattle.plan_compile.proofs.slots.plan_slots.Given as goal

abbrev pub invariant-loop-number : goal.invariant-loop-number
invariant-loop-number l =
    (l.slots.items ++ slots_from l.number (drop l.number l.builds) ≡ slots_from zero l.builds)
    × (l.newest.items ++ newest_from (length l.slots.items) (drop l.number l.builds) ≡ newest_from zero l.builds)
    × (filled l.table.items (all_made (length l.slots.items) (drop l.number l.builds)) ≡ filled (replicate l.files None) (all_made zero l.builds))
