-- The order in which edges can be run one at a time.
use Rattle.std.specs.Prelude.{◌≡◌, ℕ, Bool, true, false, List, [], All, Contains, get_or, Option, Some}
use Rattle.std.specs.List.{AllPairs}
use Rattle.plan_graph.specs.Cycles.{IsSimple, WaitsFor}
use Rattle.plan_graph.specs.Files.{producer_at}
use Rattle.plan_graph.specs.declared.graph_data.Graph.{Graph}

-- A target is needed, and so is the edge that makes an input of an edge that is needed.
pub data IsNeeded (g : Graph) (targets : List ℕ) : ℕ → Type 0 where
  target : {e : ℕ} → Contains targets e → IsNeeded g targets e
  input : {e w n : ℕ} → IsNeeded g targets e → Contains (get_or g.inputs e []) n → producer_at g.files n ≡ Some w → IsNeeded g targets w

-- Each target is among these edges, each of them is needed, and none stands twice; what one of them waits for is among
-- them, and none waits for one behind it.
pub record IsBuildOrder (g : Graph) (targets order : List ℕ) : Type 0 where
  pub whole : All (Contains order) targets
  pub needed : All (IsNeeded g targets) order
  pub once : IsSimple order
  pub closed : All (λ e. All (Contains order) (get_or g.waits e [])) order
  pub behind : AllPairs (λ x y. WaitsFor g.waits x y → ⊥) order

-- ---- a walk to such an order

-- how far a walk has come: the edges that are done, as flags and in their order, and the path of those that are open
pub record Walked : Type 0 where
  pub graph : Graph
  pub targets : List ℕ
  pub done : List Bool
  pub order : List ℕ
  pub path : List ℕ

abbrev pub is_done : List Bool → ℕ → Type 0
is_done flags e = get_or flags e false ≡ true

-- what holds of each walk
pub record IsWalk (w : Walked) : Type 0 where
  pub flags : (e : ℕ) → is_done w.done e → Contains w.order e
  pub flagged : All (is_done w.done) w.order
  pub needed : All (IsNeeded w.graph w.targets) w.order
  pub begun : All (IsNeeded w.graph w.targets) w.path
  pub once : IsSimple w.order
  pub closed : All (λ e. All (Contains w.order) (get_or w.graph.waits e [])) w.order
  pub behind : AllPairs (λ x y. WaitsFor w.graph.waits x y → ⊥) w.order

-- it is a walk of the same graph to the same targets
abbrev pub GoesOn : (old new : Walked) → Type 0
GoesOn old new = (new.graph ≡ old.graph) × (new.targets ≡ old.targets)
