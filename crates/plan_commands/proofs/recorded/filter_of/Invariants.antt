use Rattle.std.proofs.Common.{◌≡◌, take}
use Rattle.std.specs.Prelude.{flat_map}
use Rattle.plan_graph.specs.Graph.{outputs_of}
use Rattle.plan_commands.proofs.recorded.filter_of.Given as goal

abbrev pub invariant-loop-number : goal.invariant-loop-number
invariant-loop-number l = l.filter ≡ flat_map outputs_of (take l.number l.edges)
