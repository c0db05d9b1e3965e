-- The paths that targets need.
use Rattle.std.specs.Prelude.{◌≡◌, ℕ, ◌<◌, ◌≤◌, Bool, true, false, List, [], All, Contains, get_or, length, Some}
use Rattle.plan_graph.specs.declared.graph_data.Graph.{Graph}
use Rattle.plan_graph.specs.Files.{producer_at}

-- A target is needed, and so is each input of the edge that makes a path that is needed.
pub data IsPathNeeded (g : Graph) (targets : List ℕ) : ℕ → Type 0 where
  target : {p : ℕ} → Contains targets p → IsPathNeeded g targets p
  input : {p e i : ℕ} → IsPathNeeded g targets p → producer_at g.files p ≡ Some e → Contains (get_or g.inputs e []) i → IsPathNeeded g targets i

abbrev pub is_set : List Bool → ℕ → Type 0
is_set flags p = get_or flags p false ≡ true

-- a flag for each path of the graph, set if targets need it
pub record AreNeededFlags (g : Graph) (targets : List ℕ) (flags : List Bool) : Type 0 where
  pub sized : length flags ≡ length g.files
  pub sound : (p : ℕ) → is_set flags p → IsPathNeeded g targets p
  pub complete : (p : ℕ) → p < length g.files → IsPathNeeded g targets p → is_set flags p

-- ---- a search for these paths

-- how far a search has come: the flags of the paths that it met, these paths in the order in which it met them, and the
-- flags of the edges whose inputs it met
pub record Reached : Type 0 where
  pub graph : Graph
  pub targets : List ℕ
  pub met : List Bool
  pub queue : List ℕ
  pub read : List Bool

-- a path was met, if it is one of the graph
abbrev pub IsMet : Reached → ℕ → Type 0
IsMet r p = p < length r.graph.files → is_set r.met p

-- all inputs of an edge were met
abbrev pub AreInputsMet : Reached → (edge : ℕ) → Type 0
AreInputsMet r e = All (IsMet r) (get_or r.graph.inputs e [])

-- all inputs of the edge that makes a path were met
abbrev pub IsExpanded : Reached → (path : ℕ) → Type 0
IsExpanded r p = (e : ℕ) → producer_at r.graph.files p ≡ Some e → AreInputsMet r e

-- what holds of each search
pub record IsSearch (r : Reached) : Type 0 where
  pub sized : length r.met ≡ length r.graph.files
  pub needed : All (IsPathNeeded r.graph r.targets) r.queue
  pub flagged : (p : ℕ) → is_set r.met p → Contains r.queue p
  pub inputs : (e : ℕ) → is_set r.read e → AreInputsMet r e

-- a search met more: no flag is taken back, and the queue begins as it was
pub record MeetsMore (old new : Reached) : Type 0 where
  pub graph : new.graph ≡ old.graph
  pub targets : new.targets ≡ old.targets
  pub met : (p : ℕ) → is_set old.met p → is_set new.met p
  pub longer : length old.queue ≤ length new.queue
  pub queue : (k : ℕ) → k < length old.queue → get_or new.queue k 0 ≡ get_or old.queue k 0
