-- The start entries: the entries in the record of an edge whose command was started and hasn't succeeded.
use Rattle.std.specs.Prelude.{◌≡◌, ℕ, List, [], ◌∷◌, ◌++◌, All, drop, map, flat_map, get_or, Option, Some, None, option_and_then, slice_get, bytes_eq, if◌then◌else◌}
use Rattle.plan_record.specs.Among.{AreAmong}
use Rattle.plan_record.specs.Entries.{EntryData, last_of}
use Rattle.plan_world.specs.Rewriting.{is_begun}

-- `/dev/null/begun`: this file can't exist, since `/dev/null` isn't a folder
abbrev pub missing_path : List ℕ
missing_path = 47 ∷ 100 ∷ 101 ∷ 118 ∷ 47 ∷ 110 ∷ 117 ∷ 108 ∷ 108 ∷ 47 ∷ 98 ∷ 101 ∷ 103 ∷ 117 ∷ 110 ∷ []

-- An entry whose command is a NUL byte, which no manifest can have, and whose only path is always missing. So an edge
-- with this entry is out of date, even if a changed command doesn't count.
abbrev pub begun : (output : List ℕ) → EntryData
begun output = record { output = output; command = 0 ∷ []; basis = 0; paths = missing_path ∷ [] }

-- The start entry of an output of an edge that isn't its first one. It names the first one too.
abbrev pub begun_with : (first output : List ℕ) → EntryData
begun_with first output = record { output = output; command = 0 ∷ []; basis = 0; paths = missing_path ∷ first ∷ [] }

-- ---- the paths that a start entry keeps

-- the output itself, and the paths that its start entry keeps, if there are any
abbrev pub kept_after : (output : List ℕ) (kept : List (List ℕ)) → List (List ℕ)
kept_after output [] = []
kept_after output (path ∷ kept) = output ∷ path ∷ kept

-- The start entry of a first output that keeps these paths.
abbrev pub begun_keeping : (output : List ℕ) (kept : List (List ℕ)) → EntryData
begun_keeping output kept = record { output = output; command = 0 ∷ []; basis = 0; paths = missing_path ∷ kept_after output kept }

-- What the last command of an edge read that succeeded, by the last entry of its first output: the paths of that
-- command's entry, or those that a start entry keeps.
abbrev pub paths_read : Option EntryData → List (List ℕ)
paths_read None = []
paths_read (Some x) = if is_begun x then drop 2 x.paths else x.paths

-- A start entry, after these entries. It keeps those paths that the last command of its edge read and that are wanted.
abbrev pub IsBegun : (wanted : List (List ℕ)) (entries : List EntryData) → EntryData → Type 0
IsBegun wanted entries x = (kept : List (List ℕ)) × (x ≡ begun_keeping x.output kept) × AreAmong wanted (paths_read (last_of x.output entries)) kept

-- such start entries of these outputs
pub record AreBegun (wanted : List (List ℕ)) (entries : List EntryData) (outputs : List (List ℕ)) (xs : List EntryData) : Type 0 where
  pub named : map (λ x. x.output) xs ≡ outputs
  pub each : All (IsBegun wanted entries) xs

-- ---- outputs that another edge made before

-- the first output that a start entry names, if it is that of another output
abbrev pub first_named : EntryData → Option (List ℕ)
first_named x = if is_begun x then slice_get x.paths 1 else None

-- The first output of another edge, whose entry ends. None if it is this edge itself.
abbrev pub ended_by : (first : List ℕ) → Option (List ℕ) → List (List ℕ)
ended_by first (Some other) = if bytes_eq other first then [] else other ∷ []
ended_by first None = []

-- By the record, another edge made this output last, but not as its first one. The first output of that edge.
abbrev pub ended_for : (entries : List EntryData) (first output : List ℕ) → List (List ℕ)
ended_for entries first output = ended_by first (option_and_then first_named (last_of output entries))

-- The first outputs of the other edges which made these files, and whose entries end when the edge with this first
-- output begins.
abbrev pub ended : (entries : List EntryData) (first : List ℕ) (outputs : List (List ℕ)) → List (List ℕ)
ended entries first outputs = flat_map (ended_for entries first) outputs

-- All start entries that are written when the command of an edge begins that makes these files: those that end the entries
-- of other edges, those of the further outputs, and that of the first one.
pub record AreStarted (wanted : List (List ℕ)) (entries : List EntryData) (outputs : List (List ℕ)) (xs : List EntryData) : Type 0 where
  pub ends : List EntryData
  pub ended : AreBegun wanted entries (ended entries (get_or outputs 0 []) outputs) ends
  pub start : EntryData
  pub begun : AreBegun wanted entries (get_or outputs 0 [] ∷ []) (start ∷ [])
  pub all : xs ≡ ends ++ map (begun_with (get_or outputs 0 [])) (drop 1 outputs) ++ start ∷ []
