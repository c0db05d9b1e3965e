-- Byte strings that are held as the numbers of their chunks.
use Rattle.std.specs.Prelude.{◌≡◌, ◌<◌, ℕ, List, [], ◌++◌, All, get_or, length}
use Rattle.std.specs.List.{flat_map}

-- The chunk with a number.
abbrev pub chunk_at : List (List ℕ) → ℕ → List ℕ
chunk_at chunks number = get_or chunks number []

-- The joined chunks with these numbers.
abbrev pub joined : List (List ℕ) → List ℕ → List ℕ
joined chunks numbers = flat_map (chunk_at chunks) numbers

-- A number below the number of chunks.
abbrev pub IsBelow : ℕ → ℕ → Type 0
IsBelow count number = number < count

-- Numbers below the number of chunks.
abbrev pub AreBelow : ℕ → List ℕ → Type 0
AreBelow count numbers = All (IsBelow count) numbers

-- The rows are those from before, followed by more rows.
abbrev pub HasMore : List (List ℕ) → List (List ℕ) → Type 0
HasMore before now = (more : List (List ℕ)) × (now ≡ before ++ more)

-- Numbers of chunks stay valid, and have the same bytes.
abbrev pub Keeps : List (List ℕ) → List (List ℕ) → Type 0
Keeps before now = (numbers : List ℕ) → AreBelow (length before) numbers → AreBelow (length now) numbers × (joined now numbers ≡ joined before numbers)
