-- The files that `-t clean` removes.
use Rattle.std.specs.Prelude.{◌≡◌, ◌==◌, ℕ, Bool, true, false, List, [], ◌∷◌, Some, map}
use Rattle.std.specs.List.{list_any}
use Rattle.plan_scope.specs.Loading.{FileContents, PathSet}
use Rattle.plan_scope.specs.Scopes.{Text}
use Rattle.plan_scope.specs.declared.manifest.Manifest.{Manifest}
use Rattle.plan_graph.specs.Graph.{IsGraph}
use Rattle.plan_graph.specs.declared.graph_data.Graph.{Graph}
use Rattle.plan_tools.specs.Cleaning.{files_of_commands, files_of_paths, files_of_rules}
use Rattle.plan_tools.specs.Need.{AreNeededFlags}
use Rattle.plan_build_tools.specs.Naming.{MayLoadWith, named}

-- Whether the option with this letter is given.
abbrev pub has : (letters : List ℕ) → (letter : ℕ) → Bool
has letters letter = list_any (λ l. l == letter) letters

-- The files of the commands that the targets need.
pub record AreOfTargets (m : Manifest) (g : Graph) (targets : List Text) (files : List Text) : Type 0 where
  pub numbers : List ℕ
  pub named : map Some numbers ≡ map (named g) targets
  pub counted : List Bool
  pub needed : AreNeededFlags g numbers counted
  pub chosen : files ≡ files_of_paths m g counted

-- The files, as lists that are removed one after another: with `-r` those of each rule, without words those of all
-- commands, and otherwise those of the targets.
abbrev pub Cleans : Manifest → Graph → (rules : List Text) → (by_rule generators : Bool) → (words : List Text) → (batches : List (List Text)) → Type 0
Cleans m g rules true generators words batches = batches ≡ map (λ word. files_of_rules m g rules (word ∷ [])) words
Cleans m g rules false generators [] batches = batches ≡ files_of_commands m g generators ∷ []
Cleans m g rules false generators (w ∷ ws) batches = (files : List Text) × (batches ≡ files ∷ []) × AreOfTargets m g (w ∷ ws) files

-- The files that are cleaned by a manifest that the source may give.
pub record CleansIn (gives : FileContents) (fails : PathSet) (path : Text) (letters : List ℕ) (words : List Text) (batches : List (List Text)) : Type 0 where
  pub manifest : Manifest
  pub rules : List Text
  pub loaded : MayLoadWith gives fails path manifest rules
  pub graph : Graph
  pub is_graph : IsGraph manifest graph
  pub cleans : Cleans manifest graph rules (has letters 114) (has letters 103) words batches
