use Rattle.std.proofs.Common.{◌≡◌, ◌++◌, drop}
use Rattle.plan_graph.specs.Files.{numbers_past, paths_in}
use Rattle.plan_graph.specs.Reading as reading
use Rattle.plan_graph.proofs.edge_reader.with_outputs.Given as goal

abbrev pub invariant-loop-place : goal.invariant-loop-place
invariant-loop-place l =
    (reading.with_outputs l.files l.number (drop l.place l.outputs) ≡ reading.with_outputs l.fn.files l.number l.outputs)
    × (l.row.items ++ numbers_past (paths_in l.files) (drop l.place l.outputs) ≡ l.fn.row.items ++ numbers_past (paths_in l.fn.files) l.outputs)
