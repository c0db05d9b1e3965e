-- The state of the record's file while it is open.
use Rattle.std.specs.Prelude.{◌≡◌, ◌==◌, ◌&&◌, ◌||◌, get_or, ◌+◌, ◌*◌, nat_le, nat_lt, ℕ, Bool, List, [], ◌∷◌, ◌++◌, length, Option}
use Rattle.std.specs.Io.KnownBytes.{Appends}
use Rattle.std.specs.List.{flat_map}
use Rattle.plan_record.specs.Entries.{EntryData, HasSpelling, IsGoodFront, spelling}
use Rattle.plan_world.specs.StartRecorded.{AreStarted, IsBegun}

-- the entry of an edge that ran: its first output, its command, the greatest stamp that it read, its dependencies
abbrev pub edge_entry : (output command : List ℕ) (basis : ℕ) (paths : List (List ℕ)) → EntryData
edge_entry output command basis paths = record { output = output; command = command; basis = basis; paths = paths }

-- The file, the entries of the record, the number of bytes of their spellings in the file, and whether nothing more is
-- written because a cut failed or the file was removed.
pub record Recording (F : Type 0) : Type 0 where
  pub file : F
  pub entries : List EntryData
  pub good : ℕ
  pub broken : Bool

abbrev pub recording : {F : Type 0} → F → List EntryData → ℕ → Bool → Recording F
recording file entries good broken = record { file = file; entries = entries; good = good; broken = broken }

-- the good prefix is as long as the spellings of the entries
abbrev pub IsInStep : (entries : List EntryData) (good : ℕ) → Type 0
IsInStep entries good = good ≡ length (flat_map spelling entries)

-- the old entries come first, and then maybe others
abbrev pub Grows : (old new : List EntryData) → Type 0
Grows old new = (others : List EntryData) × (new ≡ old ++ others)

-- the old entries come first, then maybe those of other builders, and this entry comes last
abbrev pub EndsWith : (old new : List EntryData) (entry : EntryData) → Type 0
EndsWith old new entry = (others : List EntryData) × (new ≡ old ++ others ++ entry ∷ [])

-- after the old entries come those of the longest prefix of these bytes that is whole entries, a prefix of this length
abbrev pub TakesIn : (bytes : List ℕ) (len : ℕ) (old new : List EntryData) → Type 0
TakesIn bytes len old new = (others : List EntryData) × IsGoodFront bytes others len × (new ≡ old ++ others)

-- the last operation on the file appended these bytes
abbrev pub IsWritten : {F : Type 0} → (contents : F → Option (List ℕ)) → F → List ℕ → Type 0
IsWritten {F} contents file bytes = (before : F) × Appends (contents before) (contents file) bytes

-- The command of an edge that makes these files may begin: after the old entries come maybe those of other builders, and
-- then the start entries, which keep the paths that are wanted. The last operation on the file appended the latter.
pub record Begins {F : Type 0} (contents : F → Option (List ℕ)) (wanted : List (List ℕ)) (old new : Recording F) (outputs : List (List ℕ)) : Type 0 where
  pub read : List EntryData
  pub grows : Grows old.entries read
  pub starts : List EntryData
  pub started : AreStarted wanted read outputs starts
  pub entries : new.entries ≡ read ++ starts
  pub written : IsWritten contents new.file (flat_map spelling starts)

-- The entry of an output ends: after the old entries come maybe those of other builders, and then a start entry, which
-- keeps the paths that are wanted. The last operation on the file appended it.
pub record Ends {F : Type 0} (contents : F → Option (List ℕ)) (wanted : List (List ℕ)) (old new : Recording F) (output : List ℕ) : Type 0 where
  pub start : EntryData
  pub begun : IsBegun wanted old.entries start
  pub named : start.output ≡ output
  pub within : HasSpelling start
  pub entries : EndsWith old.entries new.entries start
  pub written : IsWritten contents new.file (spelling start)

-- the length of a path in an entry
abbrev pub is_path_len : ℕ → Bool
is_path_len len = nat_lt 0 len && nat_le len 4096

-- As far as they go, these bytes may be the first ones of an entry of less than 16 MiB: the first byte of its length is 0,
-- and its fifth and sixth byte are the length of its output's path.
abbrev pub may_begin : List ℕ → Bool
may_begin bytes = (get_or bytes 0 0 == 0) && (nat_lt (length bytes) 6 || is_path_len (get_or bytes 4 0 * 256 + get_or bytes 5 0))
