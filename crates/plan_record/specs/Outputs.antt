-- The index of the last entry of an output.
use Rattle.std.specs.Prelude.{◌≡◌, ◌<◌, ◌^◌, ℕ, suc, bytes_eq, if◌then◌else◌, List, [], ◌∷◌, length, Option, Some, None, option_map}
use Rattle.std.specs.Map.{lookup}
use Rattle.std.specs.declared.vec.Vec.{Vec}
use Rattle.std.specs.declared.alloc.Global.{Global}
use Rattle.plan_record.specs.Entries.{EntryData}
use Rattle.plan_record.specs.Compaction.{last_entries}

-- of two indices the later one counts
abbrev pub later : Option ℕ → Option ℕ → Option ℕ
later before (Some n) = Some n
later before None = before

-- the index of the last entry of an output
abbrev pub last_number : List ℕ → List EntryData → Option ℕ
last_number output [] = None
last_number output (x ∷ xs) = later (if bytes_eq x.output output then Some 0 else None) (option_map suc (last_number output xs))

-- these numbers by outputs are those of the last entries
abbrev pub IsIndexOf : List (Vec ℕ Global × ℕ) → List EntryData → Type 0
IsIndexOf numbers entries = (output : List ℕ) → lookup (λ k. bytes_eq output k.items) numbers ≡ last_number output entries

-- there is one number for each output
abbrev pub HasOneEach : List (Vec ℕ Global × ℕ) → List EntryData → Type 0
HasOneEach numbers entries = length numbers ≡ length (last_entries entries)

-- These numbers by outputs are an index of entries, which are few enough to be counted.
pub record IsIndexed (numbers : List (Vec ℕ Global × ℕ)) (entries : List EntryData) : Type 0 where
  pub index : IsIndexOf numbers entries
  pub each : HasOneEach numbers entries
  pub fits : length entries < 2 ^ 64
