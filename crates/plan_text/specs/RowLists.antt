-- Rows of items that are stored consecutively.
use Rattle.std.specs.Prelude.{◌≡◌, ◌≤◌, ℕ, List, [], ◌∷◌, slice_range}

-- the rows if the first begins at start and each row begins at the end of the one before it
abbrev pub rows_from : {X : Type 0} → ℕ → List X → List ℕ → List (List X)
rows_from start items [] = []
rows_from start items (end ∷ ends) = slice_range items start end ∷ rows_from end items ends

-- no row ends before it begins, and the last row ends at the end of the items
abbrev pub AreEnds : ℕ → List ℕ → ℕ → Type 0
AreEnds start [] len = start ≡ len
AreEnds start (end ∷ ends) len = (start ≤ end) × AreEnds end ends len
