-- The entries of a record after compaction.
use Rattle.std.specs.Prelude.{◌≡◌, ℕ, Bool, bytes_eq, is_some, if◌then◌else◌, List, [], ◌∷◌, ◌++◌, map}
use Rattle.std.specs.List.{IsDistinct}
use Rattle.plan_record.specs.Entries.{EntryData, last_of}

-- one of these entries has this output
abbrev pub has_entry : List ℕ → List EntryData → Bool
has_entry output entries = is_some (last_of output entries)

-- The last entry of each output, in the order of the record. An entry is left out if a later one has its
-- output.
abbrev pub last_entries : List EntryData → List EntryData
last_entries [] = []
last_entries (x ∷ xs) = if has_entry x.output xs then last_entries xs else x ∷ last_entries xs

-- For each output, the last entries have the same last entry as the record, even if more entries are appended
-- to both. They are the last ones among themselves, and no two of them have the same output.
pub record StandFor (entries : List EntryData) : Type 0 where
  pub same : (output : List ℕ) → last_of output (last_entries entries) ≡ last_of output entries
  pub later : (output : List ℕ) (more : List EntryData) → last_of output (last_entries entries ++ more) ≡ last_of output (entries ++ more)
  pub again : last_entries (last_entries entries) ≡ last_entries entries
  pub once : IsDistinct bytes_eq (map (λ x. x.output) (last_entries entries))
