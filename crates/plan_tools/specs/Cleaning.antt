-- The files that `-t clean` removes.
use Rattle.std.specs.Prelude.{ℕ, Bool, true, false, not, ◌&&◌, ◌||◌, List, [], ◌∷◌, ◌++◌, length, map, filter, get_or, slice_get, Option, Some, None, bytes_eq, if◌then◌else◌}
use Rattle.std.specs.List.{list_any, flat_map}
use Rattle.plan_scope.specs.Scopes.{Text}
use Rattle.plan_scope.specs.Edge.{Edge}
use Rattle.plan_scope.specs.declared.manifest.Manifest.{Manifest}
use Rattle.plan_scope.specs.Edges.{is_among}
use Rattle.plan_graph.specs.declared.graph_data.Graph.{Graph}
use Rattle.plan_graph.specs.Files.{paths_in}
use Rattle.plan_tools.specs.Listings.{of_first, path_at}

-- ---- which edges

-- a command's edge, but a generator only if generators count
abbrev pub is_cleaned : (generators : Bool) → Edge → Bool
is_cleaned generators e = not e.phony && (generators || not e.generator)

-- whether the test gives true of the edge, if there is one
abbrev pub holds_of : (Edge → Bool) → Option Edge → Bool
holds_of test (Some edge) = test edge
holds_of test None = false

-- the numbers of the edges of which the test gives true
abbrev pub edges_with : (Edge → Bool) → List Edge → List ℕ
edges_with test edges = of_first (λ n. if holds_of test (slice_get edges n) then n ∷ [] else []) (length edges)

-- whether an edge has a command and one of these rules
abbrev pub has_rule : (rules names : List Text) → List Edge → (edge : ℕ) → Bool
has_rule rules names edges n = holds_of (is_cleaned true) (slice_get edges n) && list_any (λ name. bytes_eq name (get_or rules n [])) names

-- the edges that have a command and one of these rules
abbrev pub edges_of_rules : (rules names : List Text) → List Edge → List ℕ
edges_of_rules rules names edges = of_first (λ n. if has_rule rules names edges n then n ∷ [] else []) (length edges)

-- ---- which files

-- whether the path of a number is among those that count; all paths count if there are no flags
abbrev pub is_counted : Option (List Bool) → ℕ → Bool
is_counted None number = true
is_counted (Some flags) number = get_or flags number false

-- the depfile of an edge, if there is one
abbrev pub depfile_of : Option Edge → Text
depfile_of (Some edge) = edge.depfile
depfile_of None = []

-- a path, unless it is empty
abbrev pub unless_empty : Text → List Text
unless_empty [] = []
unless_empty (c ∷ cs) = (c ∷ cs) ∷ []

-- the outputs of an edge that count, and its depfile
abbrev pub files_of_edge : Manifest → Graph → Option (List Bool) → (edge : ℕ) → List Text
files_of_edge m g counted e = map (path_at g) (filter (is_counted counted) (get_or g.outputs e [])) ++ unless_empty (depfile_of (slice_get m.edges e))

-- the files of these edges
abbrev pub files_of_edges : Manifest → Graph → Option (List Bool) → List ℕ → List Text
files_of_edges m g counted edges = flat_map (files_of_edge m g counted) edges

-- whether an edge has a command, and an output that counts
abbrev pub makes_counted : Manifest → Graph → (counted : List Bool) → (edge : ℕ) → Bool
makes_counted m g counted n = holds_of (is_cleaned true) (slice_get m.edges n) && list_any (is_counted (Some counted)) (get_or g.outputs n [])

-- the edges that have a command, and an output that counts
abbrev pub edges_of_paths : Manifest → Graph → (counted : List Bool) → List ℕ
edges_of_paths m g counted = of_first (λ n. if makes_counted m g counted n then n ∷ [] else []) (length m.edges)

-- ---- what is removed

-- the files of all commands
abbrev pub files_of_commands : Manifest → Graph → (generators : Bool) → List Text
files_of_commands m g generators = files_of_edges m g None (edges_with (is_cleaned generators) m.edges)

-- the files of the commands of these rules
abbrev pub files_of_rules : Manifest → Graph → (rules names : List Text) → List Text
files_of_rules m g rules names = files_of_edges m g None (edges_of_rules rules names m.edges)

-- the outputs that count, and the depfiles of the commands that make them
abbrev pub files_of_paths : Manifest → Graph → (counted : List Bool) → List Text
files_of_paths m g counted = files_of_edges m g (Some counted) (edges_of_paths m g counted)

-- those of these paths that no build line names
abbrev pub dead_outputs : Graph → (outputs : List Text) → List Text
dead_outputs g outputs = filter (λ path. not (is_among (paths_in g.files) path)) outputs
