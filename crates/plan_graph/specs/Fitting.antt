-- The facts about all edges in a table of paths.
use Rattle.std.specs.Prelude.{◌≡◌, ◌≤◌, ℕ, true, List, [], ◌∷◌, Option, Some, None, Contains, flat_map, if◌then◌else◌, length, slice_get}
use Rattle.std.specs.List.Sorted.{IsStrictlyIncreasing}
use Rattle.plan_scope.specs.Edge.{Edge}
use Rattle.plan_scope.specs.Edges.{is_among}
use Rattle.plan_graph.specs.Files.{Path, Table, is_used, producer_at, producer_in, paths_in}
use Rattle.plan_graph.specs.Graph.{files_of, inputs_of, producer_of, max_edges, outputs_of}
use Rattle.plan_graph.specs.Reading.{is_own}

-- A table that fits these edges: it has their paths, with the edge that produces each and whether an edge uses
-- it. Each path has one producer, and the number of edges is within the limit.
pub record Fits (files : Table) (edges : List Edge) : Type 0 where
  pub paths : paths_in files ≡ files_of edges
  pub producers : (path : Path) → producer_in files path ≡ producer_of edges path
  pub uses : (path : Path) → is_used files path ≡ is_among (flat_map inputs_of edges) path
  pub once : (n : ℕ) (e : Edge) (path : Path) → slice_get edges n ≡ Some e → is_among (outputs_of e) path ≡ true → producer_of edges path ≡ Some n
  pub few : length edges ≤ max_edges

-- no number, or one
abbrev pub as_list : Option ℕ → List ℕ
as_list None = []
as_list (Some n) = n ∷ []

-- the producer of a path, unless it is the edge itself
abbrev pub unless_own : Option ℕ → Option ℕ → List ℕ
unless_own own producer = if is_own producer own then [] else as_list producer

-- the producers of paths, unless they are the edge itself
abbrev pub producers : Table → Option ℕ → List Path → List ℕ
producers files own paths = flat_map (λ p. unless_own own (producer_in files p)) paths

-- the producers of the paths with these numbers, unless they are the edge itself
abbrev pub producers_at : Table → Option ℕ → List ℕ → List ℕ
producers_at files own numbers = flat_map (λ n. unless_own own (producer_at files n)) numbers

-- these numbers, without repetitions, in ascending order
pub record IsAscending (numbers row : List ℕ) : Type 0 where
  pub order : IsStrictlyIncreasing row
  pub kept : (n : ℕ) → Contains numbers n → Contains row n
  pub given : (n : ℕ) → Contains row n → Contains numbers n
