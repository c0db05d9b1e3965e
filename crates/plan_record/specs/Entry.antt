-- An entry in the bytes of a file.
use Rattle.std.specs.Prelude.{◌≡◌, ℕ, List, [], drop, Some, None}
use Rattle.plan_record.specs.Entries.{EntryData}
use Rattle.plan_record.specs.Reading.{Read, entry_at}

-- the entry that was read, without the bytes after it; an empty entry if there was none
abbrev pub data_of : Read EntryData → EntryData
data_of (Some x) = x.0
data_of None = record { output = []; command = []; basis = 0; paths = [] }

-- a whole entry begins at an offset of some bytes
abbrev pub IsPlaced : List ℕ → ℕ → Type 0
IsPlaced bytes start = (x : EntryData × List ℕ) × (entry_at (drop start bytes) ≡ Some x)
