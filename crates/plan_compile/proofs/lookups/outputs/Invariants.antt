use Rattle.std.proofs.Common.{◌≡◌, ◌++◌, drop}
use Rattle.plan_compile.specs.OutputTable.{outputs_in}
use Rattle.plan_compile.proofs.lookups.outputs.Given as goal

abbrev pub invariant-loop-file : goal.invariant-loop-file
invariant-loop-file l = l.outputs.items ++ outputs_in l.table (drop l.file-index l.files) ≡ outputs_in l.table l.files
