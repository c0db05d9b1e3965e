-- When a record is rewritten, and what becomes of its entries.
use Rattle.std.specs.Prelude.{ℕ, ◌*◌, ◌&&◌, ◌||◌, ◌==◌, nat_lt, not, Bool, bytes_eq, if◌then◌else◌, List, [], ◌∷◌, length}
use Rattle.std.specs.List.{list_any}
use Rattle.plan_record.specs.Compaction.{last_entries}
use Rattle.plan_record.specs.Entries.{EntryData}

-- The record has more than 100 entries, and more than three entries for each output.
abbrev pub has_grown : List EntryData → Bool
has_grown entries = nat_lt 100 (length entries) && nat_lt (3 * length (last_entries entries)) (length entries)

-- The entry says that its edge was begun: its command is one NUL byte.
abbrev pub is_begun : EntryData → Bool
is_begun x = bytes_eq x.command (0 ∷ [])

-- No output is named, or this output is among the named ones.
abbrev pub is_wanted : (outputs : List (List ℕ)) (output : List ℕ) → Bool
is_wanted outputs output = (length outputs == 0) || list_any (λ name. bytes_eq name output) outputs

-- The basis of an entry becomes the stamp of its output if the output is wanted, unless the edge was begun.
abbrev pub restated_entry : (outputs : List (List ℕ)) (stamp : ℕ) → EntryData → EntryData
restated_entry outputs stamp x = if is_wanted outputs x.output && not (is_begun x) then record x { basis = stamp } else x

-- Entries, restated with the stamps of their outputs, one stamp for each. The order of the entries stays.
abbrev pub restated : (outputs : List (List ℕ)) (stamps : List ℕ) → List EntryData → List EntryData
restated outputs (s ∷ stamps) (x ∷ xs) = restated_entry outputs s x ∷ restated outputs stamps xs
restated outputs stamps xs = []
