-- Reading an entry from the front of some bytes.
use Rattle.std.specs.Prelude.{ℕ, zero, suc, nat_lt, ◌==◌, ◌||◌, if◌then◌else◌, List, [], ◌∷◌, length, take, drop, Option, Some, None}
use Rattle.std.specs.Int.{Width, w16, w32, w64, byte_len, from_be_bytes}
use Rattle.plan_record.specs.Entries.{EntryData}

-- the value at the front, and the bytes after it; None if they are cut off or exceed a limit
abbrev pub Read : Type 0 → Type 0
Read X = Option (X × List ℕ)

-- the first step, and then the second with its result
infixl 10 ◌>>=◌
abbrev pub ◌>>=◌ : {A B : Type 0} → Option A → (A → Option B) → Option B
(Some x) >>= f = f x
None >>= f = None

unfoldable pub number_at : Width → List ℕ → Read ℕ
number_at w bytes = if nat_lt (length bytes) (byte_len w) then None else Some (from_be_bytes w (take (byte_len w) bytes), drop (byte_len w) bytes)

-- that many bytes
unfoldable pub bytes_at : ℕ → List ℕ → Read (List ℕ)
bytes_at n bytes = if nat_lt (length bytes) n then None else Some (take n bytes, drop n bytes)

-- a path of 1 to 4,096 bytes
unfoldable pub path_at : List ℕ → Read (List ℕ)
path_at bytes = do
  n ← number_at w16 bytes
  if (n.0 == 0) || nat_lt 4096 n.0 then None else bytes_at n.0 n.1

-- a command of at most 1,048,576 bytes
unfoldable pub command_at : List ℕ → Read (List ℕ)
command_at bytes = do
  n ← number_at w32 bytes
  if nat_lt 1048576 n.0 then None else bytes_at n.0 n.1

-- this many paths
unfoldable pub some_paths_at : ℕ → List ℕ → Read (List (List ℕ))
some_paths_at zero bytes = Some ([], bytes)
some_paths_at (suc n) bytes = do
  path ← path_at bytes
  paths ← some_paths_at n path.1
  Some (path.0 ∷ paths.0, paths.1)

-- the fields before the paths of an entry
pub record Head : Type 0 where
  pub output : List ℕ
  pub command : List ℕ
  pub basis : ℕ
  pub count : ℕ

unfoldable pub head_at : List ℕ → Read Head
head_at bytes = do
  output ← path_at bytes
  command ← command_at output.1
  basis ← number_at w64 command.1
  count ← number_at w32 basis.1
  Some (record { output = output.0; command = command.0; basis = basis.0; count = count.0 }, count.1)

abbrev pub head_of : EntryData → Head
head_of x = record { output = x.output; command = x.command; basis = x.basis; count = length x.paths }

abbrev pub with_paths : Head → List (List ℕ) → EntryData
with_paths h paths = record { output = h.output; command = h.command; basis = h.basis; paths = paths }

unfoldable pub body_at : List ℕ → Read EntryData
body_at bytes = do
  h ← head_at bytes
  paths ← some_paths_at h.0.count h.1
  Some (with_paths h.0 paths.0, paths.1)

-- a value that takes all of the bytes
abbrev pub exactly : {X : Type 0} → X × List ℕ → Option X
exactly (x, []) = Some x
exactly (x, b ∷ bytes) = None

-- the entry whose body these bytes are
unfoldable pub entry_of : List ℕ → Option EntryData
entry_of bytes = body_at bytes >>= exactly

-- an entry, after the length of its body
unfoldable pub entry_at : List ℕ → Read EntryData
entry_at bytes = do
  n ← number_at w32 bytes
  body ← bytes_at n.0 n.1
  x ← entry_of body.0
  Some (x, body.1)

-- the head of an entry, after the length of its body, and the rest of its body
unfoldable pub entry_head_at : List ℕ → Read Head
entry_head_at bytes = do
  n ← number_at w32 bytes
  body ← bytes_at n.0 n.1
  head_at body.0
