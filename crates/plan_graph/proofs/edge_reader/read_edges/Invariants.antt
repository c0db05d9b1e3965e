use Rattle.std.proofs.Common.{◌≡◌, ◌++◌, [], drop}
use Rattle.plan_graph.specs.Files.{paths_in}
use Rattle.plan_graph.specs.Reading as reading
use Rattle.plan_graph.proofs.edge_reader.read_edges.Given as goal

abbrev pub invariant-loop-number : goal.invariant-loop-number
invariant-loop-number l =
    (reading.with_edges l.read.files l.number l.defaults (drop l.number l.manifest.edges) ≡ reading.table_of l.manifest)
    × (l.read.outputs ++ reading.outputs_past (paths_in l.read.files) (drop l.number l.manifest.edges) ≡ reading.outputs_past [] l.manifest.edges)
    × (l.read.inputs ++ reading.inputs_past (paths_in l.read.files) (drop l.number l.manifest.edges) ≡ reading.inputs_past [] l.manifest.edges)
