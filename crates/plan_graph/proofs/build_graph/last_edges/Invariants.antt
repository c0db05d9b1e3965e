use Rattle.std.proofs.Common.{◌≡◌, ◌++◌, drop}
use Rattle.plan_graph.specs.Graph.{is_last, numbers_from}
use Rattle.plan_graph.proofs.build_graph.last_edges.Given as goal

abbrev pub invariant-loop-number : goal.invariant-loop-number
invariant-loop-number l = l.numbers.items ++ numbers_from l.number (is_last l.edges) (drop l.number l.edges) ≡ numbers_from 0 (is_last l.edges) l.edges
