-- The paths of a build line, as the code holds them.
use Rattle.std.specs.Prelude.{◌≡◌, ◌||◌, ◌++◌, ◌∷◌, [], List, map, Option}
use Rattle.std.specs.List.{list_any}
use Rattle.plan_parse.specs.declared.compact.PathLists.{PathLists}
use Rattle.plan_parse.specs.PathLists.{map_lists}
use Rattle.plan_scope.specs.declared.edge.paths.PathRows.{PathRows}
use Rattle.plan_scope.specs.declared.edge.paths.PathTexts.{PathTexts}
use Rattle.plan_scope.specs.Scopes.{Text, is_empty, is_long_path}
use Rattle.plan_scope.specs.Edges.{Paths, canonical_paths, has_empty, has_long, path_of}
use Rattle.plan_scope.specs.Kept.{kept}

-- The kept texts of paths.
abbrev pub kept_in : Paths → PathLists (List (Option Text))
kept_in p = map_lists (map kept) p

-- The canonical forms of the paths of a build line, and the flags of the expanded paths.
abbrev pub AreRead : Paths → PathTexts → Type 0
AreRead texts read = (read.paths ≡ canonical_paths texts) × (read.has_empty ≡ has_empty texts) × (read.has_long ≡ has_long texts)

-- One more expanded path was read.
pub record ReadsPath (before : PathRows) (text : Text) (now : PathRows) : Type 0 where
  pub rows : now.rows ≡ before.rows ++ path_of text ∷ []
  pub empty : now.has_empty ≡ (before.has_empty || is_empty text)
  pub long : now.has_long ≡ (before.has_long || is_long_path text)

-- A list of expanded paths was read.
pub record ReadsPaths (before : PathRows) (texts : List Text) (now : PathRows) : Type 0 where
  pub rows : now.rows ≡ before.rows ++ map path_of texts
  pub empty : now.has_empty ≡ (before.has_empty || list_any is_empty texts)
  pub long : now.has_long ≡ (before.has_long || list_any is_long_path texts)
