use Rattle.std.proofs.Common.{◌≡◌, ◌++◌, drop}
use Rattle.plan_compile.specs.Builds.{builds_from}
use Rattle.plan_compile.proofs.build.builds.Given as goal

abbrev pub invariant-loop-number : goal.invariant-loop-number
invariant-loop-number l =
    l.builds.items ++ builds_from l.rule l.graph l.number (drop l.number l.manifest.edges) ≡ builds_from l.rule l.graph 0 l.manifest.edges
