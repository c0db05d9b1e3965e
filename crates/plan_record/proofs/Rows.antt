-- Entries written by hand: the definitions compute the results that docs/rules/record.md says.
use Rattle.std.proofs.Common.{◌≡◌, ℕ, List, [], ◌∷◌, ◌++◌, take, drop, Some, None, Err, refl, arith}
use Rattle.plan_record.specs.Appending.{AppendsSpelling}
use Rattle.plan_record.specs.Entries.{EntryData, spelling, last_of}
use Rattle.plan_record.specs.Compaction.{last_entries}
use Rattle.plan_record.specs.Paths.{paths_in}
use Rattle.plan_record.specs.Reading.{number_at, bytes_at, path_at, command_at, some_paths_at, head_at, body_at, entry_of, entry_at}

-- output `a`, command `t`, basis 7, no paths
abbrev kept : EntryData
kept = record { output = 97 ∷ []; command = 116 ∷ []; basis = 7; paths = [] }

abbrev bytes : List ℕ
bytes = 0 ∷ 0 ∷ 0 ∷ 20 ∷ 0 ∷ 1 ∷ 97 ∷ 0 ∷ 0 ∷ 0 ∷ 1 ∷ 116 ∷ 0 ∷ 0 ∷ 0 ∷ 0 ∷ 0 ∷ 0 ∷ 0 ∷ 7 ∷ 0 ∷ 0 ∷ 0 ∷ 0 ∷ []

-- output `b`, no command, basis 256, the path `h`
abbrev other : EntryData
other = record { output = 98 ∷ []; command = []; basis = 256; paths = (104 ∷ []) ∷ [] }

abbrev other_bytes : List ℕ
other_bytes = 0 ∷ 0 ∷ 0 ∷ 22 ∷ 0 ∷ 1 ∷ 98 ∷ 0 ∷ 0 ∷ 0 ∷ 0 ∷ 0 ∷ 0 ∷ 0 ∷ 0 ∷ 0 ∷ 0 ∷ 1 ∷ 0 ∷ 0 ∷ 0 ∷ 0 ∷ 1 ∷ 0 ∷ 1 ∷ 104 ∷ []

entry_of_24_bytes : spelling kept ≡ bytes
unfolding spelling
entry_of_24_bytes = refl

entry_with_a_path : spelling other ≡ other_bytes
unfolding spelling
entry_with_a_path = refl

read_again : entry_at bytes ≡ Some (kept, [])
unfolding entry_at entry_of body_at head_at path_at command_at some_paths_at number_at bytes_at
read_again = refl

read_with_a_path : entry_at (other_bytes ++ bytes) ≡ Some (other, bytes)
unfolding entry_at entry_of body_at head_at path_at command_at some_paths_at number_at bytes_at
read_with_a_path = refl

torn_behind : entry_at (bytes ++ take 10 bytes) ≡ Some (kept, take 10 bytes)
unfolding entry_at entry_of body_at head_at path_at command_at some_paths_at number_at bytes_at
torn_behind = refl

torn : entry_at (take 10 bytes) ≡ None
unfolding entry_at entry_of body_at head_at path_at command_at some_paths_at number_at bytes_at
torn = refl

cut_by_one : entry_at (take 23 bytes) ≡ None
unfolding entry_at entry_of body_at head_at path_at command_at some_paths_at number_at bytes_at
cut_by_one = refl

-- a body of 21 bytes that are a body of 20 and one more
longer_than_its_parts : entry_at ((0 ∷ 0 ∷ 0 ∷ 21 ∷ []) ++ drop 4 bytes ++ 0 ∷ []) ≡ None
unfolding entry_at entry_of body_at head_at path_at command_at some_paths_at number_at bytes_at
longer_than_its_parts = refl

shorter_than_its_parts : entry_at ((0 ∷ 0 ∷ 0 ∷ 19 ∷ []) ++ drop 4 bytes) ≡ None
unfolding entry_at entry_of body_at head_at path_at command_at some_paths_at number_at bytes_at
shorter_than_its_parts = refl

-- one path is counted, but there is none
count_past_the_end : entry_at (take 23 bytes ++ 1 ∷ []) ≡ None
unfolding entry_at entry_of body_at head_at path_at command_at some_paths_at number_at bytes_at
count_past_the_end = refl

-- an empty output
empty_output : entry_at ((0 ∷ 0 ∷ 0 ∷ 19 ∷ 0 ∷ 0 ∷ []) ++ drop 7 bytes) ≡ None
unfolding entry_at entry_of body_at head_at path_at command_at some_paths_at number_at bytes_at
empty_output = refl

last_counts : last_of (97 ∷ []) (kept ∷ other ∷ record kept { basis = 8 } ∷ other ∷ []) ≡ Some (record kept { basis = 8 })
last_counts = refl

none_of_that_output : last_of (99 ∷ []) (kept ∷ other ∷ []) ≡ None
none_of_that_output = refl

-- the last entries are in the record's order
earlier_left_out : last_entries (kept ∷ other ∷ record kept { basis = 8 } ∷ []) ≡ other ∷ record kept { basis = 8 } ∷ []
earlier_left_out = refl

one_of_many : last_entries (kept ∷ record kept { basis = 8 } ∷ record kept { basis = 9 } ∷ []) ≡ record kept { basis = 9 } ∷ []
one_of_many = refl

nothing_left_out : last_entries (kept ∷ other ∷ []) ≡ kept ∷ other ∷ []
nothing_left_out = refl

two_paths : paths_in (some_paths_at 2 (0 ∷ 1 ∷ 97 ∷ 0 ∷ 1 ∷ 98 ∷ [])) ≡ (97 ∷ []) ∷ (98 ∷ []) ∷ []
unfolding path_at some_paths_at number_at bytes_at
two_paths = refl

-- a sink that took ten bytes, and then failed
ten_bytes_written : AppendsSpelling (Err (record { written = 10 })) (0, Some []) (1, Some (take 10 bytes)) bytes
ten_bytes_written = (refl, omega arith, refl)
