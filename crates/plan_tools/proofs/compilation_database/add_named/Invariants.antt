use Rattle.std.proofs.Common.{◌≡◌, ◌++◌, map, drop}
use Rattle.plan_tools.specs.CompilationDatabase.{named_in}
use Rattle.plan_tools.proofs.compilation_database.add_named.Given as goal

-- the edge was appended for the names so far
abbrev pub invariant-loop-name : goal.invariant-loop-name
invariant-loop-name l =
    l.chosen.items ++ named_in (map (λ n. n.now) (drop l.name-index l.names)) l.rule l.edge ≡ l.fn.chosen.items ++ named_in (map (λ n. n.now) l.names) l.rule l.edge
