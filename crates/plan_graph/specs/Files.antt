-- The facts about paths.
use Rattle.std.specs.Prelude.{ℕ, zero, suc, Bool, false, List, [], ◌∷◌, ◌++◌, Option, None, map, bytes_eq, if◌then◌else◌}
use Rattle.plan_scope.specs.Edges.{is_among}
use Rattle.plan_graph.specs.declared.files.File.{File}

abbrev pub Path : Type 0
Path = List ℕ

-- a path that no edge produces or uses
abbrev pub unknown : File
unknown = record { producer = None; is_used = false }

-- paths, each with the facts about it
abbrev pub Table : Type 0
Table = List (Path × File)

-- the facts about a path
abbrev pub file_of : Path → Table → File
file_of path [] = unknown
file_of path (f ∷ fs) = if bytes_eq path f.0 then f.1 else file_of path fs

-- changes the facts about a path, or appends the path with them
abbrev pub with_file : Table → Path → File → Table
with_file [] path file = (path, file) ∷ []
with_file (f ∷ fs) path file = if bytes_eq path f.0 then (f.0, file) ∷ fs else f ∷ with_file fs path file

abbrev pub producer_in : Table → Path → Option ℕ
producer_in files path = (file_of path files).producer

abbrev pub is_used : Table → Path → Bool
is_used files path = (file_of path files).is_used

abbrev pub paths_in : Table → List Path
paths_in files = map (λ f. f.0) files

-- the number of these paths that are before a path: its number among them
abbrev pub number_of : List Path → Path → ℕ
number_of [] path = 0
number_of (p ∷ ps) path = if bytes_eq path p then 0 else suc (number_of ps path)

-- the facts about the path with this number
abbrev pub file_at : ℕ → Table → File
file_at number [] = unknown
file_at zero (f ∷ fs) = f.1
file_at (suc number) (f ∷ fs) = file_at number fs

abbrev pub producer_at : Table → ℕ → Option ℕ
producer_at files number = (file_at number files).producer

-- appends a path, unless it is in the list
abbrev pub with_path : List Path → Path → List Path
with_path paths path = if is_among paths path then paths else paths ++ path ∷ []

-- the paths without repetitions, in the order of first occurrence
abbrev pub with_paths : List Path → List Path → List Path
with_paths seen [] = seen
with_paths seen (path ∷ more) = with_paths (with_path seen path) more

-- the numbers that paths are given after those that were seen
abbrev pub numbers_past : List Path → List Path → List ℕ
numbers_past seen [] = []
numbers_past seen (path ∷ more) = number_of seen path ∷ numbers_past (with_path seen path) more
