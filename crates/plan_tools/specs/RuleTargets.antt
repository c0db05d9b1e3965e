-- The targets of a rule, as `-t targets rule` lists them.
use Rattle.std.specs.Prelude.{ℕ, true, false, List, [], Option, Result, Ok, Err, bytes_eq, get_or, length, map, if◌then◌else◌}
use Rattle.std.specs.List.{flat_map}
use Rattle.std.specs.List.Sorted.{IsPermutation, IsSorted}
use Rattle.std.specs.Cmp.Lexicographic.{slice_cmp}
use Rattle.std.specs.Ordering.{nat_cmp}
use Rattle.plan_text.specs.Sinks.{Writes}
use Rattle.plan_scope.specs.Scopes.{Text}
use Rattle.plan_graph.specs.declared.graph_data.Graph.{Graph}
use Rattle.plan_graph.specs.Files.{Path}
use Rattle.plan_tools.specs.Listings.{line, of_first, path_at}
use Rattle.plan_tools.specs.declared.tree_fault.TreeFault.{TreeFault}
use Rattle.plan_tools.specs.declared.tree_fault.TreeFault.TheVariants.{Memory, Sink}

-- the outputs of an edge, if it has this rule
abbrev pub outputs_of_rule : Graph → (rules : List Text) → (rule : Text) → (edge : ℕ) → List Path
outputs_of_rule g rules rule e = if bytes_eq (get_or rules e []) rule then map (path_at g) (get_or g.outputs e []) else []

-- the outputs of all edges with this rule
abbrev pub targets_of_rule : Graph → (rules : List Text) → (rule : Text) → List Path
targets_of_rule g rules rule = of_first (outputs_of_rule g rules rule) (length g.outputs)

-- texts, each on a line
abbrev pub lines_of : List Text → Text
lines_of texts = flat_map line texts

-- they are these texts in ascending order of their bytes
abbrev pub AreSorted : (all sorted : List Text) → Type 0
AreSorted all sorted = IsPermutation all sorted × IsSorted (slice_cmp nat_cmp) sorted

-- what was written of some texts on lines, in ascending order: nothing if memory ran out
abbrev pub ListsSorted : Result (Unit {0}) TreeFault → (old new : ℕ × Option (List ℕ)) → List Text → Type 0
ListsSorted (Ok done) old new all = (sorted : List Text) × AreSorted all sorted × Writes true old new (lines_of sorted)
ListsSorted (Err Sink) old new all = (sorted : List Text) × AreSorted all sorted × Writes false old new (lines_of sorted)
ListsSorted (Err Memory) old new all = Writes true old new []
