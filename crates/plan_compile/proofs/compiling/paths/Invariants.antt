use Rattle.std.proofs.Common.{◌≡◌, ◌++◌, drop}
use Rattle.plan_graph.specs.Files.{paths_in}
use Rattle.plan_compile.proofs.compiling.paths.Given as goal

abbrev pub invariant-loop-number : goal.invariant-loop-number
invariant-loop-number l = l.rows ++ drop l.number (paths_in l.files) ≡ paths_in l.files
