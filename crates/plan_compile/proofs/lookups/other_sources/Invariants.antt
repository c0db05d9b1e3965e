use Rattle.std.proofs.Common.{◌≡◌, ◌++◌, drop}
use Rattle.plan_compile.specs.OutputTable.{sources_in}
use Rattle.plan_compile.proofs.lookups.other_sources.Given as goal

abbrev pub invariant-loop-file : goal.invariant-loop-file
invariant-loop-file l = l.files.items ++ sources_in l.table l.named (drop l.file-index l.order_only) ≡ sources_in l.table l.named l.order_only
