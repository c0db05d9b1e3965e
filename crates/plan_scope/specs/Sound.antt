-- Properties of each manifest.
use Rattle.std.specs.Prelude.{◌≡◌, ◌<◌, ◌≤◌, ◌+◌, ◌⊎◌, true, false, List, [], ◌∷◌, ◌++◌, length, map, Ok}
use Rattle.std.specs.List.{All}
use Rattle.plan_text.specs.Path.{canonical_of}
use Rattle.plan_parse.specs.PathLists.{all_in}
use Rattle.plan_parse.specs.Build.{Build}
use Rattle.plan_scope.specs.Edge.{Edge}
use Rattle.plan_scope.specs.declared.manifest.Manifest.{Manifest}
use Rattle.plan_scope.specs.declared.manifest.Pool.{Pool}
use Rattle.plan_scope.specs.Scopes.{Text, Name}
use Rattle.plan_text.specs.Limits.{max_path, max_text}
use Rattle.plan_scope.specs.Edges.{is_among, max_depth}

-- A build line has an output, explicit or implicit.
abbrev pub MakesSome : Build → Type 0
MakesSome b = 0 < length b.paths.outputs + length b.paths.implicit_outputs

-- A canonical path of 1 to 4,096 bytes.
pub record IsPath (path : Text) : Type 0 where
  pub canonical : canonical_of path ≡ Ok path
  pub present : 0 < length path
  pub short : length path ≤ max_path

-- A phony edge runs nothing.
pub record RunsNothing (e : Edge) : Type 0 where
  pub command : e.command ≡ []
  pub description : e.description ≡ []
  pub depfile : e.depfile ≡ []
  pub pool : e.pool ≡ []

-- An edge, given the names of the pools.
pub record IsSoundEdge (pools : List Name) (e : Edge) : Type 0 where
  pub made : 0 < length e.paths.outputs + length e.paths.implicit_outputs
  pub paths : All IsPath (all_in e.paths)
  pub command : length e.command ≤ max_text
  pub description : length e.description ≤ max_text
  pub depfile : length e.depfile ≤ max_text
  pub pool : (e.pool ≡ []) ⊎ (is_among pools e.pool ≡ true)
  pub phony : e.phony ≡ true → RunsNothing e

-- No name is among those before it.
abbrev pub AreApart : List Name → List Name → Type 0
AreApart before [] = Unit {0}
AreApart before (name ∷ more) = (is_among before name ≡ false) × AreApart (before ++ name ∷ []) more

abbrev pub names_of : List Pool → List Name
names_of pools = map (λ p. p.name) pools

-- A manifest has edges that can run, pools with different names, and targets.
pub record IsSound (m : Manifest) : Type 0 where
  pub edges : All (IsSoundEdge (names_of m.pools)) m.edges
  pub pools : AreApart [] (names_of m.pools)
  pub depths : All (λ p. p.depth ≤ max_depth) m.pools
  pub defaults : All (λ d. IsPath d.path) m.defaults
