-- Laws about all edges and all waits.
use Rattle.std.specs.Prelude.{◌≡◌, ◌≢◌, ◌<◌, ◌↔◌, ◌++◌, ℕ, All, Contains, List, [], Some, get_or, length, slice_get, slice_index}
use Rattle.std.specs.List.{AllPairs}
use Rattle.std.specs.List.Sorted.{IsStrictlyIncreasing}
use Rattle.plan_scope.specs.declared.manifest.DefaultTarget.{DefaultTarget}
use Rattle.plan_scope.specs.Edge.{Edge}
use Rattle.plan_graph.specs.Cycles.{AreRanks, IsCycle, WaitsFor}
use Rattle.plan_graph.specs.Files.{Path, Table, producer_at, producer_in, number_of, paths_in}
use Rattle.plan_graph.specs.Graph.{all_waits, default_edges, files_of, inputs_named, inputs_of, producer_of, outputs_of}

-- the rank of an edge is greater than that of each edge that it waits for
abbrev pub RanksRise : Type 0
RanksRise = (waits : List (List ℕ)) (ranks : List ℕ) (e w : ℕ) → AreRanks waits ranks → WaitsFor waits e w → slice_index ranks w < slice_index ranks e

-- edges have ranks if and only if there is no cycle
abbrev pub RankedUnlessCyclic : Type 0
RankedUnlessCyclic = (edges : List Edge) → ((ranks : List ℕ) × AreRanks (all_waits edges) ranks) ↔ ((es : List ℕ) → IsCycle (all_waits edges) es → ⊥)

-- each path that an edge names is a file, at its number
abbrev pub FilesComplete : Type 0
FilesComplete = (edges : List Edge) (n : ℕ) (e : Edge) (path : Path) → slice_get edges n ≡ Some e → Contains (outputs_of e ++ inputs_named e) path
    → slice_get (files_of edges) (number_of (files_of edges) path) ≡ Some path

-- no file is repeated
abbrev pub FilesDistinct : Type 0
FilesDistinct = (edges : List Edge) → AllPairs (λ p q. p ≢ q) (files_of edges)

-- the producer of a path is the producer of the file with its number
abbrev pub ProducersNumbered : Type 0
ProducersNumbered = (files : Table) (path : Path) → producer_at files (number_of (paths_in files) path) ≡ producer_in files path

-- an edge waits for the producers of its inputs
abbrev pub ProducersWaited : Type 0
ProducersWaited = (edges : List Edge) (n w : ℕ) (e : Edge) (path : Path) → slice_get edges n ≡ Some e → Contains (inputs_of e) path → producer_of edges path ≡ Some w → WaitsFor (all_waits edges) n w

-- the waits of an edge ascend, and are edges
abbrev pub WaitsAscend : Type 0
WaitsAscend = (edges : List Edge) (n : ℕ) → IsStrictlyIncreasing (get_or (all_waits edges) n []) × All (λ w. w < length edges) (get_or (all_waits edges) n [])

-- the default edges ascend, and are edges
abbrev pub DefaultsAscend : Type 0
DefaultsAscend = (edges : List Edge) (defaults : List DefaultTarget) → IsStrictlyIncreasing (default_edges edges defaults) × All (λ n. n < length edges) (default_edges edges defaults)
