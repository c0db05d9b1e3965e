use Rattle.std.proofs.Common.{◌≡◌, drop}
use Rattle.plan_compile.specs.OutputTable.{filled}
use Rattle.plan_compile.specs.Slots.{outputs_sharing}
use Rattle.plan_compile.proofs.slots.put_sharing.Given as goal

abbrev pub invariant-loop-file : goal.invariant-loop-file
invariant-loop-file l = filled l.table.items (outputs_sharing l.stamp l.changed (drop l.file-index l.files)) ≡ filled l.fn.table.items (outputs_sharing l.stamp l.changed l.files)
