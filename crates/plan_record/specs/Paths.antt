-- The paths at the front of some bytes.
use Rattle.std.specs.Prelude.{◌≡◌, ℕ, List, [], Some, None}
use Rattle.plan_record.specs.Reading.{Read, some_paths_at}

-- the paths that were read, without the bytes after them
abbrev pub paths_in : Read (List (List ℕ)) → List (List ℕ)
paths_in (Some x) = x.0
paths_in None = []

-- there are this many paths at the front of these bytes
abbrev pub ArePaths : ℕ → List ℕ → Type 0
ArePaths count bytes = (x : List (List ℕ) × List ℕ) × (some_paths_at count bytes ≡ Some x)
