use Rattle.std.proofs.Common.{◌≡◌, List, ℕ, drop}
use Rattle.plan_compile.specs.OutputTable.{sources_in}
use Rattle.plan_compile.proofs.lookups.are_made.Given as goal

abbrev pub invariant-loop-file : goal.invariant-loop-file
invariant-loop-file l = (named : List ℕ) → sources_in l.table named (drop l.file-index l.files) ≡ sources_in l.table named l.files
