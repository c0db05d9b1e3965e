use Rattle.std.proofs.Common.{◌≡◌, ◌≤◌, ◌++◌}
use Rattle.plan_parse.specs.PathLists.{between}
use Rattle.plan_scope.proofs.edge.extending.copy_rows.Given as goal

-- The copies so far.
abbrev pub invariant-loop-number : goal.invariant-loop-number
invariant-loop-number l = (l.start ≤ l.number) × (l.rows ≡ l.fn.rows ++ between l.start l.number l.fn.rows)
