-- The texts, the pools and the numbers that are collected of the edges of a manifest.
use Rattle.std.specs.Prelude.{◌≡◌, List, map}
use Rattle.plan_scope.specs.Edge.{Edge as ManifestEdge}
use Rattle.plan_compile.specs.declared.edge_names.EdgeNames.{EdgeNames}
use Rattle.plan_compile.specs.EdgeNumbers.{edge_numbers}
use Rattle.plan_compile.specs.Names.{pools_of_edges, texts_of_edges}

-- These are the texts of all edges, the pools that edges use, and the numbers of each edge's texts and pool.
pub record AreNames (edges : List ManifestEdge) (names : EdgeNames) : Type 0 where
  pub texts : names.texts ≡ texts_of_edges edges
  pub pools : names.pools ≡ pools_of_edges edges
  pub numbers : names.numbers.items ≡ map (edge_numbers (texts_of_edges edges) (pools_of_edges edges)) edges
