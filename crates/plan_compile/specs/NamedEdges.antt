-- The edges of a manifest, in its order, and the names that were collected of them.
use Rattle.std.specs.Prelude.{◌≡◌, ◌≤◌, length, map}
use Rattle.plan_scope.specs.declared.manifest.Manifest.{Manifest}
use Rattle.plan_graph.specs.declared.graph_data.Graph.{Graph}
use Rattle.plan_image.specs.declared.maxima.TheConstants.{MAX_FILES}
use Rattle.plan_compile.specs.declared.baseline.OutOfDateRule.{OutOfDateRule}
use Rattle.plan_compile.specs.declared.compiling.Named.{Named}
use Rattle.plan_compile.specs.Builds.{builds_from}
use Rattle.plan_compile.specs.EdgeNumbers.{numbers_in}
use Rattle.plan_compile.specs.Names.{all_texts, used_pools}

-- These are the edges of the manifest, all texts and pools that they use, and the numbers of each edge's texts and pool.
pub record AreNamed (rule : OutOfDateRule) (m : Manifest) (g : Graph) (named : Named) : Type 0 where
  pub builds : named.builds.items ≡ builds_from rule g 0 m.edges
  pub texts : named.names.texts ≡ all_texts named.builds.items
  pub pools : named.names.pools ≡ used_pools named.builds.items
  pub numbers : named.names.numbers.items ≡ map (numbers_in (all_texts named.builds.items) (used_pools named.builds.items)) named.builds.items

-- There are no more files than an image may have.
abbrev pub HasFewFiles : Graph → Type 0
HasFewFiles g = length g.files ≤ MAX_FILES
