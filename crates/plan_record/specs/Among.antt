-- The paths of an entry that are in a set.
use Rattle.std.specs.Prelude.{◌≡◌, ◌⊎◌, ℕ, List, [], ◌∷◌, ◌++◌, Contains}

-- Some of these paths: each of them that is wanted is among them.
pub record AreAmong (wanted paths found : List (List ℕ)) : Type 0 where
  pub some : (path : List ℕ) → Contains found path → Contains paths path
  pub all : (path : List ℕ) → Contains paths path → Contains wanted path → Contains found path

-- The path comes last among those that were found, or it isn't wanted.
abbrev pub AddsWanted : (wanted : List (List ℕ)) (path : List ℕ) (old new : List (List ℕ)) → Type 0
AddsWanted wanted path old new = (new ≡ old ++ path ∷ []) ⊎ ((new ≡ old) × (Contains wanted path → ⊥))
