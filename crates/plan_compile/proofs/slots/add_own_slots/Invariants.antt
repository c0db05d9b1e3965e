use Rattle.std.proofs.Common.{◌≡◌, ◌++◌, drop, length}
use Rattle.plan_compile.specs.OutputTable.{filled}
use Rattle.plan_compile.specs.Slots.{outputs_apart, owned, pairs}
use Rattle.plan_compile.proofs.slots.add_own_slots.Given as goal

abbrev pub invariant-loop-file : goal.invariant-loop-file
invariant-loop-file l =
    (l.slots.items ++ owned l.owner (pairs (drop l.file-index l.files)) ≡ l.fn.slots.items ++ owned l.owner (pairs l.files))
    × (filled l.table.items (outputs_apart (length l.slots.items) (drop l.file-index l.files)) ≡ filled l.fn.table.items (outputs_apart (length l.fn.slots.items) l.files))
