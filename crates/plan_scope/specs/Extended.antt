-- Manifests with paths that are added to their edges.
use Rattle.std.specs.Prelude.{◌≡◌, ℕ, zero, suc, ◌⊎◌, List, [], ◌∷◌, ◌++◌, All, Contains, fold, length, map}
use Rattle.plan_scope.specs.declared.edge.addition.Addition.{Addition}
use Rattle.plan_scope.specs.declared.manifest.Manifest.{Manifest}
use Rattle.plan_scope.specs.Edge.{Edge}
use Rattle.plan_scope.specs.Edges.{Paths}
use Rattle.plan_scope.specs.Scopes.{Text}
use Rattle.plan_scope.specs.Sound.{IsPath, IsSound}

-- Paths with more outputs and inputs at the end of the implicit ones, and more order-only inputs at the end of these.
abbrev pub paths_with : Addition → Paths → Paths
paths_with a p = record {
  outputs = p.outputs;
  implicit_outputs = p.implicit_outputs ++ a.outputs;
  inputs = p.inputs;
  implicit_inputs = p.implicit_inputs ++ a.inputs;
  order_only_inputs = p.order_only_inputs ++ a.order_only;
}

-- An edge with these paths.
abbrev pub edge_having : Paths → Edge → Edge
edge_having paths e = record {
  paths = paths;
  command = e.command;
  description = e.description;
  depfile = e.depfile;
  deps = e.deps;
  restat = e.restat;
  generator = e.generator;
  phony = e.phony;
  pool = e.pool;
}

-- An edge with an addition.
abbrev pub added : Addition → Edge → Edge
added a e = edge_having (paths_with a e.paths) e

-- A list in which the item with this number is changed, if there is one.
abbrev pub changed_at : {X : Type 0} → ℕ → (X → X) → List X → List X
changed_at n f [] = []
changed_at zero f (x ∷ xs) = f x ∷ xs
changed_at (suc n) f (x ∷ xs) = x ∷ changed_at n f xs

-- A manifest in which the edge with the addition's number has the addition.
abbrev pub with_addition : Manifest → Addition → Manifest
with_addition m a = record { edges = changed_at a.edge (added a) m.edges; pools = m.pools; defaults = m.defaults }

-- A manifest with several additions, one after the other.
abbrev pub extended : List Addition → Manifest → Manifest
extended additions m = fold with_addition m additions

-- The part of an edge that no addition changes: all except its implicit outputs and inputs and its order-only inputs.
abbrev pub unchanged_part : Edge → Edge
unchanged_part e = edge_having (record { outputs = e.paths.outputs; implicit_outputs = []; inputs = e.paths.inputs; implicit_inputs = []; order_only_inputs = [] }) e

-- Two manifests run the same commands: each edge differs at most in implicit and order-only paths.
pub record RunTheSame (m n : Manifest) : Type 0 where
  pub edges : map unchanged_part m.edges ≡ map unchanged_part n.edges
  pub count : length m.edges ≡ length n.edges
  pub pools : m.pools ≡ n.pools
  pub defaults : m.defaults ≡ n.defaults

-- A path is an output of an edge of a manifest.
abbrev pub IsMade : Manifest → Text → Type 0
IsMade m path = (e : Edge) × Contains m.edges e × Contains (e.paths.outputs ++ e.paths.implicit_outputs) path

-- All paths of an addition.
abbrev pub paths_in : Addition → List Text
paths_in a = a.outputs ++ a.inputs ++ a.order_only

-- Each path of the additions is an output of the manifest, or canonical and of 1 to 4,096 bytes.
abbrev pub AreSoundFor : Manifest → List Addition → Type 0
AreSoundFor m additions = All (λ a. All (λ path. IsMade m path ⊎ IsPath path) (paths_in a)) additions
