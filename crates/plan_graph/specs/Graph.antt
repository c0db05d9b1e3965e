-- The build graph of a manifest. Edges are named by their numbers in the manifest, from 0.
use Rattle.std.specs.Prelude.{◌≡◌, ◌≤◌, ℕ, ◌+◌, ◌<◌, All, Bool, Contains, slice_get, not, List, [], ◌∷◌, ◌++◌, length, map, take, drop, Option, Some, None, Result, Ok, Err, nat_le, if◌then◌else◌, filter, flat_map}
use Rattle.std.specs.List.{list_any, prefix_len}
use Rattle.plan_scope.specs.declared.manifest.DefaultTarget.{DefaultTarget}
use Rattle.plan_scope.specs.Edge.{Edge}
use Rattle.plan_scope.specs.declared.manifest.Manifest.{Manifest}
use Rattle.plan_scope.specs.Scopes.{or_else}
use Rattle.plan_scope.specs.Edges.{is_among}
use Rattle.plan_graph.specs.declared.graph_data.TheConstants.{MAX_EDGES}
use Rattle.plan_graph.specs.declared.fault.GraphFault.{GraphFault}
use Rattle.plan_graph.specs.declared.fault.GraphFault.TheVariants.{TwoProducers, Cycle, UnknownDefault, TooManyEdges, Memory}
use Rattle.plan_graph.specs.declared.graph_data.Graph.{Graph as GraphMeant}
use Rattle.plan_graph.specs.Files.{Path, producer_in, number_of, paths_in, with_paths}
use Rattle.plan_graph.specs.Cycles.{AreRanks, IsCycle, IsLeastFirst, IsSimple}

-- explicit outputs before implicit ones
abbrev pub outputs_of : Edge → List Path
outputs_of e = e.paths.outputs ++ e.paths.implicit_outputs

-- inputs of any sort, as they are named
abbrev pub inputs_named : Edge → List Path
inputs_named e = e.paths.inputs ++ (e.paths.implicit_inputs ++ e.paths.order_only_inputs)

-- removes the outputs of a phony from its own inputs
abbrev pub without_own : Edge → List Path → List Path
without_own e paths = if e.phony then filter (λ p. not (is_among (outputs_of e) p)) paths else paths

-- explicit and implicit inputs
abbrev pub named_inputs_of : Edge → List Path
named_inputs_of e = without_own e (e.paths.inputs ++ e.paths.implicit_inputs)

abbrev pub order_only_of : Edge → List Path
order_only_of e = without_own e e.paths.order_only_inputs

-- inputs of any sort
abbrev pub inputs_of : Edge → List Path
inputs_of e = named_inputs_of e ++ order_only_of e

-- an edge that produces one of these paths
abbrev pub produces_any : List Path → Edge → Bool
produces_any paths e = list_any (is_among (outputs_of e)) paths

-- the numbers, from n on, of the edges that pass the test
abbrev pub numbers_from : ℕ → (Edge → Bool) → List Edge → List ℕ
numbers_from n test [] = []
numbers_from n test (e ∷ es) = if test e then n ∷ numbers_from (n + 1) test es else numbers_from (n + 1) test es

-- the waits of an edge, ascending: each edge that produces one of its inputs
abbrev pub waits_of : List Edge → Edge → List ℕ
waits_of edges e = numbers_from 0 (produces_any (inputs_of e)) edges

abbrev pub all_waits : List Edge → List (List ℕ)
all_waits edges = map (waits_of edges) edges

-- the number, from n on, of the first edge that produces a path
abbrev pub producer_from : ℕ → List Edge → Path → Option ℕ
producer_from n [] path = None
producer_from n (e ∷ es) path = if is_among (outputs_of e) path then Some n else producer_from (n + 1) es path

abbrev pub producer_of : List Edge → Path → Option ℕ
producer_of edges path = producer_from 0 edges path

-- the paths that build lines name, without repetitions, in the order of first occurrence
abbrev pub files_of : List Edge → List Path
files_of edges = with_paths [] (flat_map (λ e. outputs_of e ++ inputs_named e) edges)

-- for each edge a row of numbers: those of some of its paths
abbrev pub rows_of : (Edge → List Path) → List Path → List Edge → List (List ℕ)
rows_of named paths edges = map (λ e. map (number_of paths) (named e)) edges

-- an edge with an output that is no input of any edge (Ninja manual, "Default target statements")
abbrev pub is_last : List Edge → Edge → Bool
is_last edges e = list_any (λ o. not (is_among (flat_map inputs_of edges) o)) (outputs_of e)

-- the edges that are built if no target is given: those that `default` statements name, or else each edge that
-- is last
abbrev pub default_edges : List Edge → List DefaultTarget → List ℕ
default_edges edges [] = numbers_from 0 (is_last edges) edges
default_edges edges (d ∷ ds) = numbers_from 0 (produces_any (map (λ t. t.path) (d ∷ ds))) edges

-- the first of these outputs that already is one: above, or earlier among these paths
abbrev pub second_producer : List Path → List Path → Option GraphFault
second_producer above [] = None
second_producer above (o ∷ os) = if is_among above o then Some (TwoProducers o) else second_producer (above ++ o ∷ []) os

-- the first of these targets that no edge above produces
abbrev pub unknown_target : List Edge → List DefaultTarget → Option GraphFault
unknown_target above [] = None
unknown_target above (d ∷ ds) = if is_among (flat_map outputs_of above) d.path then unknown_target above ds else Some (UnknownDefault d.path)

abbrev pub max_edges : ℕ
max_edges = MAX_EDGES

abbrev pub edge_limit : List Edge → Option GraphFault
edge_limit above = if nat_le max_edges (length above) then Some TooManyEdges else None

-- how many of these targets of `default` statements are above the build line with this number
abbrev pub targets_above : ℕ → List DefaultTarget → ℕ
targets_above number defaults = prefix_len (λ d. nat_le d.edges_above number) defaults

-- the first fault in the order of reading after these edges: of the remaining targets and the remaining edges
abbrev pub fault_past : List Edge → List DefaultTarget → List Edge → Option GraphFault
fault_past above defaults [] = unknown_target above defaults
fault_past above defaults (e ∷ es) =
    let due = targets_above (length above) defaults in
    or_else (unknown_target above (take due defaults))
    (or_else (second_producer (flat_map outputs_of above) (outputs_of e))
    (or_else (edge_limit above)
    (fault_past (above ++ e ∷ []) (drop due defaults) es)))

abbrev pub first_fault : Manifest → Option GraphFault
first_fault m = fault_past [] m.defaults m.edges

-- the graph of a manifest
pub record IsGraph (m : Manifest) (g : GraphMeant) : Type 0 where
  pub sound : first_fault m ≡ None
  pub few : length m.edges ≤ max_edges
  pub files : paths_in g.files ≡ files_of m.edges
  pub producers : (path : Path) → producer_in g.files path ≡ producer_of m.edges path
  pub own : (n : ℕ) (e : Edge) (path : Path) → slice_get m.edges n ≡ Some e → Contains (outputs_of e) path → producer_of m.edges path ≡ Some n
  pub outputs : g.outputs ≡ rows_of outputs_of (files_of m.edges) m.edges
  pub inputs : g.inputs ≡ rows_of inputs_named (files_of m.edges) m.edges
  pub waits : g.waits ≡ all_waits m.edges
  pub ranks : AreRanks g.waits g.ranks
  pub low : All (λ r. r < length m.edges) g.ranks
  pub defaults : g.defaults ≡ default_edges m.edges m.defaults

-- the reason why a manifest has no graph; a cycle only if there is no other fault
abbrev pub Refuses : Manifest → GraphFault → Type 0
Refuses m (Cycle es) = (first_fault m ≡ None) × IsCycle (all_waits m.edges) es × IsSimple es × IsLeastFirst es
Refuses m Memory = Unit {0}
Refuses m (TwoProducers path) = first_fault m ≡ Some (TwoProducers path)
Refuses m (UnknownDefault path) = first_fault m ≡ Some (UnknownDefault path)
Refuses m TooManyEdges = first_fault m ≡ Some TooManyEdges

-- the result for a manifest: its graph, or the reason why it has none
abbrev pub GraphIs : Manifest → Result GraphMeant GraphFault → Type 0
GraphIs m (Ok g) = IsGraph m g
GraphIs m (Err fault) = Refuses m fault
