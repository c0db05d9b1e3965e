-- Rows that are parts of shared bytes.
use Rattle.std.specs.Prelude.{◌≡◌, ◌+◌, ◌<◌, ◌≤◌, ℕ, List, Some, drop, slice_get, take}
use Rattle.plan_text.specs.declared.shared_rows.Place.{Place}

-- the row at a place of some bytes
abbrev pub row_in : List ℕ → Place → List ℕ
row_in bytes place = take place.len (drop place.start bytes)

-- two lists have the same place at an index, and its row ends within the first `end` bytes
abbrev pub IsWithin : (end : ℕ) → List Place → List Place → ℕ → Type 0
IsWithin end first second number =
    (place : Place) × (slice_get first number ≡ Some place) × (slice_get second number ≡ Some place) × (place.start + place.len ≤ end)

-- two lists begin with the same n places, and their rows end within the first `end` bytes
abbrev pub AreWithin : (end : ℕ) → List Place → List Place → (n : ℕ) → Type 0
AreWithin end first second n = (number : ℕ) → number < n → IsWithin end first second number
