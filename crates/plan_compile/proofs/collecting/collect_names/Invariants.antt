use Rattle.std.proofs.Common.{◌≡◌, ◌≤◌, ◌*◌, ◌++◌, drop, length, map, bytes_eq}
use Rattle.std.specs.Prelude.{flat_map}
use Rattle.plan_compile.specs.EdgeNumbers.{edge_numbers}
use Rattle.plan_compile.specs.Names.{edge_pool, edge_texts, pools_of_edges, texts_of_edges}
use Rattle.plan_compile.specs.Numbering.{with_items}
use Rattle.plan_compile.proofs.collecting.collect_names.Given as goal

abbrev pub invariant-loop-number : goal.invariant-loop-number
invariant-loop-number l =
    (with_items bytes_eq l.texts (flat_map edge_texts (drop l.number l.manifest.edges)) ≡ texts_of_edges l.manifest.edges)
    × (with_items bytes_eq l.pools (flat_map edge_pool (drop l.number l.manifest.edges)) ≡ pools_of_edges l.manifest.edges)
    × (l.numbers.items ++ map (edge_numbers (texts_of_edges l.manifest.edges) (pools_of_edges l.manifest.edges)) (drop l.number l.manifest.edges) ≡ map (edge_numbers (texts_of_edges l.manifest.edges) (pools_of_edges l.manifest.edges)) l.manifest.edges)
    × (length l.texts ≤ 3 * l.number)
    × (length l.pools ≤ l.number)
