-- The compilation database of a manifest (ninja's `-t compdb`; Clang, "JSON Compilation Database Format Specification").
use Rattle.std.specs.Prelude.{ℕ, zero, suc, List, [], ◌∷◌, ◌++◌, length, get_or, slice_get, Option, Some, None, codes, bytes_eq, if◌then◌else◌}
use Rattle.std.specs.List.{flat_map}
use Rattle.plan_scope.specs.Scopes.{Text}
use Rattle.plan_scope.specs.Edge.{Edge}
use Rattle.plan_scope.specs.declared.manifest.Manifest.{Manifest}
use Rattle.plan_graph.specs.declared.graph_data.Graph.{Graph}
use Rattle.plan_tools.specs.Inputs.{inputs_at}
use Rattle.plan_tools.specs.Json.{json_text}
use Rattle.plan_tools.specs.Listings.{of_first, path_at}

-- an edge as often as its rule is among these names
abbrev pub named_in : (names : List Text) → (rule : Text) → (edge : ℕ) → List ℕ
named_in names rule e = flat_map (λ name. if bytes_eq name rule then e ∷ [] else []) names

-- once if no rule is named
abbrev pub named_or_all : (names : List Text) → (rule : Text) → (edge : ℕ) → List ℕ
named_or_all [] rule e = e ∷ []
named_or_all names rule e = named_in names rule e

-- never if it has no inputs
abbrev pub if_used : (inputs : List ℕ) → List ℕ → List ℕ
if_used [] chosen = []
if_used (i ∷ is) chosen = chosen

-- the edges of these rules that have inputs, all such edges if no rule is named
abbrev pub chosen_edges : Graph → (rules names : List Text) → List ℕ
chosen_edges g rules names = of_first (λ e. if_used (inputs_at g e) (named_or_all names (get_or rules e []) e)) (length g.inputs)

-- a member of an object, behind what stands in front of its text
abbrev pub member : (front text : Text) → Text
member front text = front ++ json_text text

-- the path of the first of some numbers
abbrev pub first_path : Graph → List ℕ → Text
first_path g [] = []
first_path g (n ∷ ns) = path_at g n

-- the text of a command; empty if there is no edge
abbrev pub command_of : Option Edge → Text
command_of (Some edge) = edge.command
command_of None = []

-- an object: the folder in which a command runs, the command, its first input, its first output
abbrev pub object : (folder command file output : Text) → Text
object folder command file output =
    member (codes "\n  {\n    \"directory\": \"") folder
    ++ (member (codes "\",\n    \"command\": \"") command
    ++ (member (codes "\",\n    \"file\": \"") file
    ++ (member (codes "\",\n    \"output\": \"") output ++ codes "\"\n  }")))

-- the object of an edge
abbrev pub object_of : (folder : Text) → Manifest → Graph → (edge : ℕ) → Text
object_of folder m g e = object folder (command_of (slice_get m.edges e)) (first_path g (inputs_at g e)) (first_path g (get_or g.outputs e []))

-- a comma in front of all objects but the first
abbrev pub comma_before : ℕ → Text
comma_before zero = []
comma_before (suc n) = codes ","

-- the object of a number, behind its comma
abbrev pub listed_object : (folder : Text) → Manifest → Graph → (edges : List ℕ) → (number : ℕ) → Text
listed_object folder m g edges number = comma_before number ++ object_of folder m g (get_or edges number 0)

-- the array of the objects of these edges
abbrev pub database : (folder : Text) → Manifest → Graph → (edges : List ℕ) → Text
database folder m g edges = codes "[" ++ (of_first (listed_object folder m g edges) (length edges) ++ codes "\n]\n")
