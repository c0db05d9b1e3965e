-- Paths, and the slots by which a path is found among them.
use Rattle.std.specs.Prelude.{◌≡◌, ◌≢◌, ℕ, ◌+◌, ◌*◌, ◌/◌, ◌%◌, ◌^◌, ◌<◌, ◌≤◌, List, [], fold, length, min, nat_eq, true, false, get_or}
use Rattle.std.specs.Hash.FoldHasher as folding
use Rattle.std.specs.Cmp.Lexicographic.{pointwise}
use Rattle.std.specs.List.{list_any}
use Rattle.plan_text.specs.HashWords.{words}
use Rattle.plan_depfile.specs.Depfile.{with_paths}
use Rattle.plan_depfile.specs.declared.place.Place.{Place}
use Rattle.plan_depfile.specs.declared.place.Place.TheVariants.{Listed, Vacant}
use Rattle.plan_depfile.specs.declared.slot_table.SlotTable.{SlotTable}

-- the listed paths, and the queued ones, which have not been searched among them yet
pub record Found : Type 0 where
  pub listed : List (List ℕ)
  pub waiting : List (List ℕ)

-- all paths, without repetitions
abbrev pub all_found : Found → List (List ℕ)
all_found found = with_paths found.listed found.waiting

-- the hash of a path
unfoldable pub hash_of : List ℕ → ℕ
hash_of path = folding.finish (fold folding.write folding.initial (words path))

-- the slot from which on a hash is searched, in a table of this size
unfoldable pub start_of : ℕ → ℕ → ℕ
start_of size hash = min (hash * size / 2 ^ 64) size

-- the code in the slot of a path: eight bits of the hash, and the number plus one
unfoldable pub code_of : ℕ → ℕ → ℕ
code_of number hash = (hash % 256) * 16777216 + (number + 1)

-- no path has this number or a greater one
abbrev pub most_paths : ℕ
most_paths = 16777215

-- from one slot on, a slot has this code, and no slot before it is empty
pub record IsMet (slots : List ℕ) (start code : ℕ) : Type 0 where
  pub at : ℕ
  pub behind : start ≤ at
  pub lex_states : get_or slots at 0 ≡ code
  pub filled : (j : ℕ) → start ≤ j → j < at → get_or slots j 0 ≢ 0

-- the first empty slot from one on; it may be the index after the last slot
pub record IsVacant (slots : List ℕ) (start at : ℕ) : Type 0 where
  pub behind : start ≤ at
  pub within : at ≤ length slots
  pub empty : get_or slots at 0 ≡ 0
  pub filled : (j : ℕ) → start ≤ j → j < at → get_or slots j 0 ≢ 0

-- the path with this number is found by a search with its hash
abbrev pub IsPlaced : List (List ℕ) → List ℕ → ℕ → ℕ → Type 0
IsPlaced paths slots size number =
    IsMet slots (start_of size (hash_of (get_or paths number []))) (code_of number (hash_of (get_or paths number [])))

-- the paths that were placed are found
pub record ArePlaced (paths : List (List ℕ)) (table : SlotTable) : Type 0 where
  pub within : table.size ≤ length table.codes.items
  pub few : length paths ≤ most_paths
  pub met : (number : ℕ) → number < table.placed → number < length paths → IsPlaced paths table.codes.items table.size number

-- one slot was filled, and the others are unchanged
pub record IsFilled (old : List ℕ) (at code : ℕ) (new : List ℕ) : Type 0 where
  pub here : get_or new at 0 ≡ code
  pub others : (j : ℕ) → j ≢ at → get_or new j 0 ≡ get_or old j 0
  pub longer : length old ≤ length new

-- none of these slots refers to the path
abbrev pub LeadElsewhere : List (List ℕ) → List ℕ → ℕ → ℕ → List ℕ → Type 0
LeadElsewhere paths slots start at path =
    (j number : ℕ) → start ≤ j → j < at → number < length paths → get_or slots j 0 ≡ code_of number (hash_of path) → pointwise nat_eq path (get_or paths number []) ≡ false

-- the result of a search for a path from one slot on
abbrev pub IsPlace : List (List ℕ) → List ℕ → ℕ → List ℕ → Place → Type 0
IsPlace paths slots start path Listed = list_any (pointwise nat_eq path) paths ≡ true
IsPlace paths slots start path (Vacant at) = IsVacant slots start at × LeadElsewhere paths slots start at path
