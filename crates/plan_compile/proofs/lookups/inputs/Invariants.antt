use Rattle.std.proofs.Common.{◌≡◌, ◌++◌, drop}
use Rattle.plan_compile.specs.OutputTable.{inputs_in}
use Rattle.plan_compile.proofs.lookups.inputs.Given as goal

abbrev pub invariant-loop-file : goal.invariant-loop-file
invariant-loop-file l = l.inputs.items ++ inputs_in l.table (drop l.file-index l.files) ≡ inputs_in l.table l.files
