use Rattle.std.proofs.Common.{◌≡◌, ◌++◌}
use Rattle.plan_scope.specs.Edges.{pools_of}
use Rattle.plan_scope.specs.Kept.{EqNames}
use Rattle.plan_scope.proofs.edge.variables.PoolNames.of_tree.Given as goal

abbrev pub invariant-loop-statement : goal.invariant-loop-statement
invariant-loop-statement l = EqNames l.names (pools_of l.yielded) × (l.yielded ++ l.statement-iterator ≡ l.tree)
