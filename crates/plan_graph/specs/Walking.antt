-- The progress of a walk along waits, and its invariant.
use Rattle.std.specs.Prelude.{◌≡◌, ◌≢◌, ◌+◌, ◌<◌, ◌≤◌, ◌++◌, ℕ, List, [], ◌∷◌, All, Contains, None, Option, Some, get_or, length, replicate, slice_get, slice_index, sum_by}
use Rattle.plan_graph.specs.declared.walk.Mark.{Mark}
use Rattle.plan_graph.specs.declared.walk.Mark.TheVariants.{Done, New, Open}
use Rattle.plan_graph.specs.declared.fault.GraphFault.{GraphFault}
use Rattle.plan_graph.specs.declared.fault.GraphFault.TheVariants.{Cycle, Memory, TooManyEdges, TwoProducers, UnknownDefault}
use Rattle.plan_graph.specs.Graph.{max_edges}
use Rattle.plan_graph.specs.Cycles.{Chain, IsCycle, IsLeastFirst, IsSimple, rank_over}

-- each edge that is waited for exists
abbrev pub InRange : List (List ℕ) → Type 0
InRange waits = (e : ℕ) → All (λ w. w < length waits) (get_or waits e [])

-- these edges are done
abbrev pub AllDone : List Mark → List ℕ → Type 0
AllDone marks [] = Unit {0}
AllDone marks (w ∷ ws) = (slice_get marks w ≡ Some Done) × AllDone marks ws

-- the first n of these edges are done
abbrev pub DoneTo : List Mark → List ℕ → ℕ → Type 0
DoneTo marks row n = (i : ℕ) → i < n → slice_get marks (slice_index row i) ≡ Some Done

-- the remaining steps: an edge is opened, and then done
abbrev pub left_of : Mark → ℕ
left_of New = 2
left_of Open = 1
left_of Done = 0

abbrev pub left : List Mark → ℕ
left marks = sum_by left_of marks

-- 1 for an edge that is not done
abbrev pub is_pending : Mark → ℕ
is_pending New = 1
is_pending Open = 1
is_pending Done = 0

abbrev pub pending : List Mark → ℕ
pending marks = sum_by is_pending marks

-- The invariant of a walk, about the waits of each edge, the marks, the numbers of passed waits, the ranks and
-- the path.
pub record IsWalk (waits : List (List ℕ)) (marks : List Mark) (passed ranks path : List ℕ) : Type 0 where
  -- each edge has a mark, a rank and a number of passed waits
  pub marked : length marks ≡ length waits
  pub ranked : length ranks ≡ length waits
  pub counted : length passed ≡ length waits
  -- an edge that is done has its rank, and all its waits are done
  pub finished : (e : ℕ) → slice_get marks e ≡ Some Done → AllDone marks (get_or waits e []) × (slice_index ranks e ≡ rank_over ranks (get_or waits e []))
  -- the open edges are exactly those on the path
  pub opened : (e : ℕ) → slice_get marks e ≡ Some Open → Contains path e
  pub on_path : (i : ℕ) → i < length path → slice_get marks (slice_index path i) ≡ Some Open
  -- no edge is on the path twice
  pub apart : (i j : ℕ) → i < j → j < length path → slice_index path i ≢ slice_index path j
  -- each edge of the path waits for the next
  pub chain : Chain waits path
  -- the number of passed waits of an edge is at most that of all its waits, and they are done
  pub within : (e : ℕ) → slice_index passed e ≤ length (get_or waits e [])
  pub behind : (e : ℕ) → DoneTo marks (get_or waits e []) (slice_index passed e)
  -- a rank is less than the number of edges that are done
  pub low : (e : ℕ) → slice_get marks e ≡ Some Done → slice_index ranks e + pending marks < length marks
  pub most : pending marks ≤ length marks

-- the invariant of a walk in the program: the number of edges is also limited, and only edges are waited for
pub record IsSound (waits : List (List ℕ)) (marks : List Mark) (passed ranks path : List ℕ) : Type 0 where
  pub range : InRange waits
  pub few : length waits ≤ max_edges
  pub walk : IsWalk waits marks passed ranks path

-- a walk as contracts see it
pub record State : Type 0 where
  -- the waits of each edge
  pub waits : List (List ℕ)
  -- the progress with each edge
  pub marks : List Mark
  -- the open edges, each of which waits for the next
  pub path : List ℕ

-- a walk that has met no edge
abbrev pub IsUntrodden : List (List ℕ) → State → Type 0
IsUntrodden waits w = (w.waits ≡ waits) × (w.marks ≡ replicate (length waits) New) × (w.path ≡ [])

-- the last edge of a path, or None if it is empty
abbrev pub IsLast : List ℕ → Option ℕ → Type 0
IsLast path None = path ≡ []
IsLast path (Some top) = (front : List ℕ) × (path ≡ front ++ top ∷ [])

-- an edge that is new was new before
abbrev pub KeepsMarks : List Mark → List Mark → Type 0
KeepsMarks old new = (e : ℕ) → slice_get new e ≡ Some New → slice_get old e ≡ Some New

-- a walk continues
pub record GoesOn (old new : State) : Type 0 where
  pub same : new.waits ≡ old.waits
  pub less : left new.marks < left old.marks
  pub kept : KeepsMarks old.marks new.marks

-- a walk has met an edge, and no edge is open
pub record HasMet (e : ℕ) (old new : State) : Type 0 where
  pub same : new.waits ≡ old.waits
  pub empty : new.path ≡ []
  pub kept : KeepsMarks old.marks new.marks
  pub met : slice_get new.marks e ≢ Some New

-- an edge that the last edge of the path waits for and that isn't done, or None if all are
abbrev pub IsNext : State → ℕ → Option ℕ → Type 0
IsNext w top None = AllDone w.marks (get_or w.waits top [])
IsNext w top (Some next) = (next < length w.waits) × (slice_get w.marks next ≢ Some Done) × Chain w.waits (w.path ++ next ∷ [])

-- a fault that is a cycle, unless memory ran out
abbrev pub TellsCycle : List (List ℕ) → GraphFault → Type 0
TellsCycle waits (Cycle es) = IsCycle waits es × IsSimple es × IsLeastFirst es
TellsCycle waits Memory = Unit {0}
TellsCycle waits (TwoProducers path) = ⊥
TellsCycle waits (UnknownDefault path) = ⊥
TellsCycle waits TooManyEdges = ⊥
