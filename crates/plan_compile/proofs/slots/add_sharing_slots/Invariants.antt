use Rattle.std.proofs.Common.{◌≡◌, ◌++◌, drop, length}
use Rattle.plan_compile.specs.OutputTable.{filled}
use Rattle.plan_compile.specs.Slots.{outputs_flagged, owned, stamps}
use Rattle.plan_compile.proofs.slots.add_sharing_slots.Given as goal

abbrev pub invariant-loop-file : goal.invariant-loop-file
invariant-loop-file l =
    (l.slots.items ++ owned l.owner (stamps (drop l.file-index l.files)) ≡ l.fn.slots.items ++ owned l.owner (stamps l.files))
    × (filled l.table.items (outputs_flagged (length l.slots.items) l.changed (drop l.file-index l.files)) ≡ filled l.fn.table.items (outputs_flagged (length l.fn.slots.items) l.changed l.files))
