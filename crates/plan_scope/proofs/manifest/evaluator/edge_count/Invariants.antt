use Rattle.std.proofs.Common.{◌≡◌, ◌++◌, length}
use Rattle.plan_scope.specs.Edges.{builds_of}
use Rattle.plan_scope.proofs.manifest.evaluator.edge_count.Given as goal

abbrev pub invariant-loop-statement : goal.invariant-loop-statement
invariant-loop-statement l = (l.edges ≡ length (builds_of l.yielded)) × (l.yielded ++ l.statement-iterator ≡ l.tree)
