use Rattle.std.proofs.Common.{◌≡◌, ◌++◌, drop}
use Rattle.plan_graph.specs.Files.{numbers_past, paths_in}
use Rattle.plan_graph.specs.Reading as reading
use Rattle.plan_graph.proofs.edge_reader.with_inputs.Given as goal

abbrev pub invariant-loop-place : goal.invariant-loop-place
invariant-loop-place l =
    (reading.with_inputs l.own l.files (drop l.place l.inputs) ≡ reading.with_inputs l.own l.fn.files l.inputs)
    × (l.row.items ++ numbers_past (paths_in l.files) (drop l.place l.inputs) ≡ l.fn.row.items ++ numbers_past (paths_in l.fn.files) l.inputs)
