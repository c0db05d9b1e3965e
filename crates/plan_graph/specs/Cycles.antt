-- Chains and cycles of waits. A list of waits has a list of edges for each edge.
use Rattle.std.specs.Prelude.{◌≡◌, ◌≢◌, ℕ, ◌+◌, ◌≤◌, max, List, [], ◌∷◌, ◌++◌, All, Contains, get_or, map, slice_index}
use Rattle.std.specs.List.{AllPairs}

-- edge e waits for edge w
abbrev pub WaitsFor : List (List ℕ) → ℕ → ℕ → Type 0
WaitsFor waits e w = Contains (get_or waits e []) w

-- each of these edges waits for the next
abbrev pub Chain : List (List ℕ) → List ℕ → Type 0
Chain waits [] = Unit {0}
Chain waits (e ∷ []) = Unit {0}
Chain waits (e ∷ w ∷ more) = WaitsFor waits e w × Chain waits (w ∷ more)

-- each waits for the next, and the last for the first
abbrev pub IsCycle : List (List ℕ) → List ℕ → Type 0
IsCycle waits [] = ⊥
IsCycle waits (e ∷ es) = Chain waits (e ∷ (es ++ e ∷ []))

-- no edge is repeated
abbrev pub IsSimple : List ℕ → Type 0
IsSimple es = AllPairs (λ x y. x ≢ y) es

-- no number is less than the first
abbrev pub IsLeastFirst : List ℕ → Type 0
IsLeastFirst [] = Unit {0}
IsLeastFirst (e ∷ es) = All (λ other. e ≤ other) es

-- 0 without waits, or one more than the greatest rank among them
abbrev pub rank_over : List ℕ → List ℕ → ℕ
rank_over ranks [] = 0
rank_over ranks (w ∷ ws) = max (slice_index ranks w + 1) (rank_over ranks ws)

-- the rank of each edge, given its waits
abbrev pub AreRanks : List (List ℕ) → List ℕ → Type 0
AreRanks waits ranks = ranks ≡ map (rank_over ranks) waits
