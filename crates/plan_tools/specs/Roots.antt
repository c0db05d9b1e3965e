-- The paths that a build without targets makes.
use Rattle.std.specs.Prelude.{◌≡◌, ℕ, ◌<◌, ◌==◌, ◌&&◌, Bool, false, not, nat_lt, List, [], ◌∷◌, filter, get_or, length, if◌then◌else◌}
use Rattle.std.specs.List.{flat_map, list_any}
use Rattle.plan_scope.specs.declared.manifest.DefaultTarget.{DefaultTarget}
use Rattle.plan_scope.specs.Edges.{is_among}
use Rattle.plan_graph.specs.declared.graph_data.Graph.{Graph}
use Rattle.plan_graph.specs.Files.{Path, number_of, paths_in}
use Rattle.plan_tools.specs.Inputs.{inputs_at}
use Rattle.plan_tools.specs.Listings.{of_first}

-- the inputs of all edges
abbrev pub all_inputs : Graph → List ℕ
all_inputs g = of_first (inputs_at g) (length g.inputs)

-- whether a path of the graph is an input of no edge
abbrev pub is_last : Graph → (path : ℕ) → Bool
is_last g p = nat_lt p (length g.files) && not (list_any (λ i. i == p) (all_inputs g))

-- the outputs that are inputs of no edge, in the order of the build lines
abbrev pub root_paths : Graph → List ℕ
root_paths g = of_first (λ e. filter (is_last g) (get_or g.outputs e [])) (length g.outputs)

-- the number of a path, if it has one
abbrev pub numbers_of : Graph → Path → List ℕ
numbers_of g path = if is_among (paths_in g.files) path then number_of (paths_in g.files) path ∷ [] else []

-- the numbers of the targets of `default` statements
abbrev pub target_paths : Graph → List DefaultTarget → List ℕ
target_paths g targets = flat_map (λ t. numbers_of g t.path) targets

-- the targets of `default` statements, or the roots if there are no such statements
abbrev pub default_paths : Graph → List DefaultTarget → List ℕ
default_paths g [] = root_paths g
default_paths g (d ∷ ds) = target_paths g (d ∷ ds)

-- ---- flags of paths, as the code keeps them

-- a path's flag is set if the path is among these
abbrev pub AreFlagsOf : List ℕ → (flags : List Bool) → Type 0
AreFlagsOf paths flags = (p : ℕ) → p < length flags → get_or flags p false ≡ list_any (λ i. i == p) paths

-- a flag for each path of the graph, set if an edge has it as an input
pub record AreInputFlags (g : Graph) (flags : List Bool) : Type 0 where
  pub sized : length flags ≡ length g.files
  pub set : AreFlagsOf (all_inputs g) flags
