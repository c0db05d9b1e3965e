-- Entries that were added to a record, as the numbers of chunks.
use Rattle.std.specs.Prelude.{ℕ, List, All, length, map}
use Rattle.plan_chunks.specs.Joining.{AreBelow, joined}
use Rattle.plan_record.specs.Entries.{EntryData}
use Rattle.plan_record.specs.Entry.{data_of, IsPlaced}
use Rattle.plan_record.specs.Reading.{entry_at}

-- the entry at the front of the joined chunks with these numbers
abbrev pub entry_from : List (List ℕ) → List ℕ → EntryData
entry_from chunks numbers = data_of (entry_at (joined chunks numbers))

-- an entry for each list of numbers
abbrev pub entries_from : List (List ℕ) → List (List ℕ) → List EntryData
entries_from chunks rows = map (entry_from chunks) rows

-- there are chunks with these numbers, and an entry is at their front
abbrev pub IsHeld : List (List ℕ) → List ℕ → Type 0
IsHeld chunks numbers = AreBelow (length chunks) numbers × IsPlaced (joined chunks numbers) 0

abbrev pub AreHeld : List (List ℕ) → List (List ℕ) → Type 0
AreHeld chunks rows = All (IsHeld chunks) rows
