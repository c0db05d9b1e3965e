-- The listings of targets, of a graph and the rules of its edges.
use Rattle.std.specs.Prelude.{ℕ, zero, suc, length, List, [], ◌∷◌, ◌++◌, get_or, slice_get, unwrap_or, codes, is_none, if◌then◌else◌}
use Rattle.std.specs.List.{flat_map}
use Rattle.plan_scope.specs.Scopes.{Text}
use Rattle.plan_graph.specs.declared.graph_data.Graph.{Graph}
use Rattle.plan_graph.specs.Files.{Path, paths_in, producer_at}

-- what comes of the first edges, so many, one behind another
abbrev pub of_first : {A : Type 0} → (ℕ → List A) → ℕ → List A
of_first each zero = []
of_first each (suc n) = of_first each n ++ each n

-- the path of a number; empty if there is none
abbrev pub path_at : Graph → ℕ → Path
path_at g number = unwrap_or (slice_get (paths_in g.files) number) []

-- a text on a line
abbrev pub line : Text → Text
line text = text ++ 10 ∷ []

-- a path and the rule that makes it
abbrev pub rule_line : (path rule : Text) → Text
rule_line path rule = path ++ (codes ": " ++ (rule ++ 10 ∷ []))

-- the line of an output of an edge with this rule
abbrev pub output_line : Graph → (rule : Text) → (output : ℕ) → Text
output_line g rule output = rule_line (path_at g output) rule

-- the outputs of an edge, each with its rule
abbrev pub edge_lines : Graph → (rules : List Text) → (edge : ℕ) → Text
edge_lines g rules e = flat_map (output_line g (get_or rules e [])) (get_or g.outputs e [])

-- the outputs of all edges
abbrev pub all_targets : Graph → (rules : List Text) → Text
all_targets g rules = of_first (edge_lines g rules) (length g.outputs)

-- an input on a line, if no edge makes it
abbrev pub source_line : Graph → (input : ℕ) → Text
source_line g i = if is_none (producer_at g.files i) then line (path_at g i) else []

-- the sources among the inputs of an edge
abbrev pub edge_sources : Graph → (edge : ℕ) → Text
edge_sources g e = flat_map (source_line g) (get_or g.inputs e [])

-- the inputs that no edge makes, as often as edges name them
abbrev pub sources : Graph → Text
sources g = of_first (edge_sources g) (length g.inputs)
