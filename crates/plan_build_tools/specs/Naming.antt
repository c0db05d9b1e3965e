-- The paths that words of a command line name in a manifest.
use Rattle.std.specs.Prelude.{◌≡◌, ◌==◌, ℕ, zero, suc, Bool, List, [], ◌∷◌, Option, Some, None, Ok, get_or, if◌then◌else◌, is_some, length, map, filter, option_map, slice_get}
use Rattle.std.specs.List.{list_any}
use Rattle.std.specs.Option.{option_and_then, unwrap_or}
use Rattle.std.specs.Result.{result_ok}
use Rattle.plan_text.specs.Path.{canonical_of}
use Rattle.plan_scope.specs.Edges.{is_among, manifest_of}
use Rattle.plan_scope.specs.Loading.{FileContents, IsMissing, LoadsFirst, PathSet}
use Rattle.plan_scope.specs.Scopes.{Text, or_else}
use Rattle.plan_scope.specs.Trees.{TreeStatement}
use Rattle.plan_scope.specs.declared.manifest.Manifest.{Manifest}
use Rattle.plan_graph.specs.Files.{Path, number_of, paths_in, producer_at}
use Rattle.plan_graph.specs.Graph.{IsGraph}
use Rattle.plan_graph.specs.declared.graph_data.Graph.{Graph}
use Rattle.plan_tools.specs.Rules.{rules_of}

-- ---- what a word names

-- The number of a path of the graph.
abbrev pub number_in : Graph → Path → Option ℕ
number_in g path = if is_among (paths_in g.files) path then Some (number_of (paths_in g.files) path) else None

-- The first value of a function below a number.
abbrev pub first_below : ℕ → (ℕ → Option ℕ) → Option ℕ
first_below zero f = None
first_below (suc n) f = or_else (first_below n f) (f n)

-- The first output of an edge, if the edge takes this path as an input.
abbrev pub made_of : Graph → (path edge : ℕ) → Option ℕ
made_of g path edge = if list_any (λ i. i == path) (get_or g.inputs edge []) then slice_get (get_or g.outputs edge []) 0 else None

-- The first output of the first edge that takes this path as an input.
abbrev pub first_made : Graph → (path : ℕ) → Option ℕ
first_made g path = first_below (length g.inputs) (made_of g path)

-- The text before a `^` at the end of a path.
abbrev pub before_caret : Path → Option Path
before_caret [] = None
before_caret (b ∷ []) = if b == 94 then Some [] else None
before_caret (b ∷ c ∷ more) = option_map (λ front. b ∷ front) (before_caret (c ∷ more))

-- What a path in canonical form names: itself, or for `PATH^` the first output of the first edge that takes PATH as an
-- input (the Ninja manual, "Running Ninja").
abbrev pub named_by : Graph → Path → (front : Option Path) → Option ℕ
named_by g path (Some front) = option_and_then (first_made g) (number_in g front)
named_by g path None = number_in g path

abbrev pub named_path : Graph → Path → Option ℕ
named_path g path = named_by g path (before_caret path)

-- The number of the path that a word names.
abbrev pub named : Graph → (word : Text) → Option ℕ
named g word = option_and_then (named_path g) (result_ok (canonical_of word))

-- ---- the targets among what words name

abbrev pub path_at : Graph → ℕ → Path
path_at g number = unwrap_or (slice_get (paths_in g.files) number) []

abbrev pub is_made : Graph → ℕ → Bool
is_made g number = is_some (producer_at g.files number)

-- Those of some paths that an edge makes.
abbrev pub made_paths : Graph → List ℕ → List Path
made_paths g numbers = map (path_at g) (filter (is_made g) numbers)

-- Each word names a path of the graph, and these are the paths among them that an edge makes. No edge makes the others.
pub record AreNamed (g : Graph) (words : List Text) (targets : List Path) : Type 0 where
  pub numbers : List ℕ
  pub named : map Some numbers ≡ map (named g) words
  pub made : targets ≡ made_paths g numbers

-- ---- the manifest

-- The files may hold the lines of this manifest.
abbrev pub MayLoad : FileContents → (fails : PathSet) → Text → Manifest → Type 0
MayLoad gives fails path m =
    (before now : ℕ) × (lines : List TreeStatement) × LoadsFirst gives (IsMissing gives fails before now) path (Ok lines) × (manifest_of lines ≡ Ok m)

-- The same, and these are the rules of its edges.
abbrev pub MayLoadWith : FileContents → (fails : PathSet) → Text → Manifest → (rules : List Text) → Type 0
MayLoadWith gives fails path m rules =
    (before now : ℕ) × (lines : List TreeStatement) × LoadsFirst gives (IsMissing gives fails before now) path (Ok lines) × (manifest_of lines ≡ Ok m) × (rules ≡ rules_of lines)

-- The words name these targets, and otherwise only paths that no edge makes, in a manifest that the files may hold.
pub record NamesTargets (gives : FileContents) (fails : PathSet) (path : Text) (words : List Text) (targets : List Path) : Type 0 where
  pub manifest : Manifest
  pub loaded : MayLoad gives fails path manifest
  pub graph : Graph
  pub is_graph : IsGraph manifest graph
  pub named : AreNamed graph words targets
