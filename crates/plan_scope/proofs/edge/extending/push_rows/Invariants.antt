use Rattle.std.proofs.Common.{◌≡◌, ◌++◌, take}
use Rattle.plan_scope.proofs.edge.extending.push_rows.Given as goal

-- The rows so far.
abbrev pub invariant-loop-number : goal.invariant-loop-number
invariant-loop-number l = l.rows ≡ l.fn.rows ++ take l.number l.more
