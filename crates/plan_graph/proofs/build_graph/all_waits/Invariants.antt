use Rattle.std.proofs.Common.{◌≡◌, ◌++◌, drop, map}
use Rattle.plan_graph.specs.Graph.{all_waits, waits_of}
use Rattle.plan_graph.proofs.build_graph.all_waits.Given as goal

abbrev pub invariant-loop-number : goal.invariant-loop-number
invariant-loop-number l = l.waits ++ map (waits_of l.edges) (drop l.number l.edges) ≡ all_waits l.edges
