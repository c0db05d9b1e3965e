-- The one spelling of an entry, and the entries of a record file.
use Rattle.std.specs.Prelude.{◌≡◌, ℕ, ◌<◌, ◌≤◌, ◌^◌, bytes_eq, if◌then◌else◌, List, [], ◌∷◌, ◌++◌, length, take, Option, Some, None}
use Rattle.std.specs.List.{flat_map, AllByRecursion}
use Rattle.std.specs.Int.{w16, w32, w64, to_be_bytes}

-- The entry of an edge that ran: its first output, its command, the greatest stamp that it read, and the paths
-- that its depfile named.
pub record EntryData : Type 0 where
  pub output : List ℕ
  pub command : List ℕ
  pub basis : ℕ
  pub paths : List (List ℕ)

-- a path: two bytes of its length, and its bytes
abbrev pub path_spelling : List ℕ → List ℕ
path_spelling path = to_be_bytes w16 (length path) ++ path

-- a command: four bytes of its length, and its bytes
abbrev pub command_spelling : List ℕ → List ℕ
command_spelling command = to_be_bytes w32 (length command) ++ command

abbrev pub body : EntryData → List ℕ
body x =
    path_spelling x.output ++ command_spelling x.command ++ to_be_bytes w64 x.basis ++ to_be_bytes w32 (length x.paths)
    ++ flat_map path_spelling x.paths

-- the length of the body, and the body
unfoldable pub spelling : EntryData → List ℕ
spelling x = to_be_bytes w32 (length (body x)) ++ body x

-- 1 to 4,096 bytes
abbrev pub IsPath : List ℕ → Type 0
IsPath path = (0 < length path) × (length path ≤ 4096)

-- the parts of an entry are within their limits, and the numbers fit their fields
pub record ArePartsFit (x : EntryData) : Type 0 where
  pub output : IsPath x.output
  pub command : length x.command ≤ 1048576
  pub basis : x.basis < 2 ^ 64
  pub count : length x.paths < 2 ^ 32
  pub paths : AllByRecursion IsPath x.paths

-- the entry is within its limits, and its numbers fit their fields
pub record HasSpelling (x : EntryData) : Type 0 where
  pub output : IsPath x.output
  pub command : length x.command ≤ 1048576
  pub basis : x.basis < 2 ^ 64
  pub count : length x.paths < 2 ^ 32
  pub paths : AllByRecursion IsPath x.paths
  pub body : length (body x) < 2 ^ 32

-- the first `len` bytes of a file are the spellings of these entries
pub record IsWholeFront (file : List ℕ) (entries : List EntryData) (len : ℕ) : Type 0 where
  pub within : len ≤ length file
  pub spelled : take len file ≡ flat_map spelling entries
  pub fit : AllByRecursion HasSpelling entries

-- these entries are the longest front of whole ones
pub record IsGoodFront (file : List ℕ) (entries : List EntryData) (len : ℕ) : Type 0 where
  pub whole : IsWholeFront file entries len
  pub longest : (others : List EntryData) (more : ℕ) → IsWholeFront file others more → more ≤ len

-- of two entries of an output the last one counts
abbrev pub or_later : Option EntryData → Option EntryData → Option EntryData
or_later earlier (Some later) = Some later
or_later earlier None = earlier

-- the last entry of an output
abbrev pub last_of : List ℕ → List EntryData → Option EntryData
last_of output [] = None
last_of output (x ∷ xs) = or_later (if bytes_eq x.output output then Some x else None) (last_of output xs)

-- No spelling of an entry is a prefix of another one.
abbrev pub IsPrefixFree : Type 0
IsPrefixFree = (x y : EntryData) (rest : List ℕ) → HasSpelling x → HasSpelling y → spelling x ++ rest ≡ spelling y → (x ≡ y) × (rest ≡ [])
