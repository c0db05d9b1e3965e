-- The statements of a file and of all files that it includes.
use Rattle.std.specs.Prelude.{◌≡◌, ℕ, suc, ◌+◌, ◌⊎◌, ◌==◌, Bool, true, false, max, List, [], ◌∷◌, ◌++◌, Option, Some, None, Result, Ok, Err, if◌then◌else◌}
use Rattle.plan_parse.specs.declared.fault.ParseFault.{ParseFault}
use Rattle.plan_parse.specs.Kinds.{Statement}
use Rattle.plan_parse.specs.Kinds.{StatementKind}
use Rattle.plan_parse.specs.Kinds as kind
use Rattle.plan_parse.specs.Statements.{statements_of}
use Rattle.plan_scope.specs.declared.fault.Cause.{Cause}
use Rattle.plan_scope.specs.declared.fault.Cause.TheVariants.{IncludeDepth, EmptyPath, PathTooLong, TextTooLong}
use Rattle.plan_scope.specs.declared.fault.ScopeFault.{ScopeFault}
use Rattle.plan_scope.specs.declared.fault.ScopeFault.TheVariants.{SourceMissing, Parse, Refused, LoadMemory}
use Rattle.plan_scope.specs.Trees.{TreeStatement}
use Rattle.plan_scope.specs.Scopes.{Text, Name, lookup, expand, bound_by, is_too_long, is_long_path, is_empty}
use Rattle.plan_scope.specs.Edges.{first_of}

-- The bytes that a source may return for each path, or None if the file may be missing.
abbrev pub FileContents : Type 1
FileContents = Text → Option (List ℕ) → Type 0

-- A set of paths.
abbrev pub PathSet : Type 1
PathSet = Text → Type 0

-- All statements so far, or a fault.
abbrev pub Outcome : Type 0
Outcome = Result (List TreeStatement) ScopeFault

-- The path of the file that a statement includes.
abbrev pub included_by : (Name → Text) → StatementKind → Option Text
included_by here (kind.Include path) = Some (expand here path)
included_by here (kind.Subninja path) = Some (expand here path)
included_by here other = None

-- A subninja file opens a scope of its own.
abbrev pub opens_scope : StatementKind → Bool
opens_scope (kind.Subninja path) = true
opens_scope other = false

-- The own scope of a statement, which is the first that it sees.
abbrev pub own_scope : List ℕ → ℕ
own_scope [] = 0
own_scope (own ∷ outer) = own

abbrev pub greatest_scope : List TreeStatement → ℕ
greatest_scope [] = 0
greatest_scope (l ∷ more) = max (own_scope l.scopes) (greatest_scope more)

-- The scope that a statement opens which sees these scopes. It differs from the statement's own scope and from those of
-- the statements above.
abbrev pub fresh_scope : List TreeStatement → List ℕ → ℕ
fresh_scope above scopes = max (greatest_scope above) (own_scope scopes) + 1

-- The scopes of the included statements. A file of `include` continues in the scope of the statement.
abbrev pub scopes_in : List TreeStatement → List ℕ → StatementKind → List ℕ
scopes_in above scopes said = if opens_scope said then fresh_scope above scopes ∷ scopes else scopes

-- The cause for which no file may be included from a path, if `left` more files may be open.
abbrev pub cause_of_path : ℕ → Text → Option Cause
cause_of_path left path = first_of ((left == 0, IncludeDepth) ∷ (is_empty path, EmptyPath) ∷ (is_long_path path, PathTooLong) ∷ [])

-- The cause for which a statement can't be loaded.
abbrev pub cause_to_load : ℕ → (Name → Text) → StatementKind → Option Cause
cause_to_load left here (kind.Binding b) = if is_too_long (expand here b.value) then Some TextTooLong else None
cause_to_load left here (kind.Include path) = cause_of_path left (expand here path)
cause_to_load left here (kind.Subninja path) = cause_of_path left (expand here path)
cause_to_load left here other = None

-- The meaning of names after the statements above.
abbrev pub names_above : List TreeStatement → List ℕ → Name → Text
names_above above scopes = lookup (bound_by above) scopes

-- A statement of the file at a path.
abbrev pub placed : Text → List ℕ → Statement → TreeStatement
placed path scopes s = record { path = path; scopes = scopes; offset = s.offset; kind = s.kind }

-- A job of the loader: the file at a path, or the rest of its statements. They see these scopes.
pub data Job : Type 0 where
  whole_file : (path : Text) → (scopes : List ℕ) → Job
  rest_of_file : (path : Text) → (scopes : List ℕ) → (statements : List Statement) → Job

-- The allowed outcomes of a job after the statements above, if a number of further files may be open. An outcome is all
-- statements so far, or a fault.
pub data MayLoad (gives : FileContents) (missing : PathSet) : ℕ → Job → List TreeStatement → Outcome → Type 0 where
  -- A file that may be missing.
  is_missing : (left : ℕ) (path : Text) (scopes : List ℕ) (above : List TreeStatement) → missing path
      → MayLoad gives missing left (whole_file path scopes) above (Err (SourceMissing path))
  -- A file whose bytes aren't a list of statements.
  has_fault : (left : ℕ) (path : Text) (scopes : List ℕ) (above : List TreeStatement) (bytes : List ℕ) (fault : ParseFault)
      → gives path (Some bytes) → statements_of bytes ≡ Err fault
      → MayLoad gives missing left (whole_file path scopes) above (Err (Parse path fault))
  -- A file whose statements are loaded.
  is_read : (left : ℕ) (path : Text) (scopes : List ℕ) (above : List TreeStatement) (bytes : List ℕ) (statements : List Statement) (out : Outcome)
      → gives path (Some bytes) → statements_of bytes ≡ Ok statements
      → MayLoad gives missing left (rest_of_file path scopes statements) above out
      → MayLoad gives missing left (whole_file path scopes) above out
  -- The end of a file.
  ends : (left : ℕ) (path : Text) (scopes : List ℕ) (above : List TreeStatement)
      → MayLoad gives missing left (rest_of_file path scopes []) above (Ok above)
  -- A statement that is refused.
  is_refused : (left : ℕ) (path : Text) (scopes : List ℕ) (above : List TreeStatement) (s : Statement) (more : List Statement) (cause : Cause)
      → cause_to_load left (names_above above scopes) s.kind ≡ Some cause
      → MayLoad gives missing left (rest_of_file path scopes (s ∷ more)) above (Err (Refused path s.offset cause))
  -- A statement that includes no file.
  is_added : (left : ℕ) (path : Text) (scopes : List ℕ) (above : List TreeStatement) (s : Statement) (more : List Statement) (out : Outcome)
      → cause_to_load left (names_above above scopes) s.kind ≡ None → included_by (names_above above scopes) s.kind ≡ None
      → MayLoad gives missing left (rest_of_file path scopes more) (above ++ placed path scopes s ∷ []) out
      → MayLoad gives missing left (rest_of_file path scopes (s ∷ more)) above out
  -- A statement that is replaced by the statements of a file.
  includes_file : (left : ℕ) (path : Text) (scopes : List ℕ) (above : List TreeStatement) (s : Statement) (more : List Statement) (inner : Text) (with_inner : List TreeStatement) (out : Outcome)
      → cause_to_load (suc left) (names_above above scopes) s.kind ≡ None → included_by (names_above above scopes) s.kind ≡ Some inner
      → MayLoad gives missing left (whole_file inner (scopes_in above scopes s.kind)) above (Ok with_inner)
      → MayLoad gives missing (suc left) (rest_of_file path scopes more) with_inner out
      → MayLoad gives missing (suc left) (rest_of_file path scopes (s ∷ more)) above out
  -- A statement that includes a file with a fault.
  includes_fault : (left : ℕ) (path : Text) (scopes : List ℕ) (above : List TreeStatement) (s : Statement) (more : List Statement) (inner : Text) (fault : ScopeFault)
      → cause_to_load (suc left) (names_above above scopes) s.kind ≡ None → included_by (names_above above scopes) s.kind ≡ Some inner
      → MayLoad gives missing left (whole_file inner (scopes_in above scopes s.kind)) above (Err fault)
      → MayLoad gives missing (suc left) (rest_of_file path scopes (s ∷ more)) above (Err fault)

-- At most 64 files are open at once: the first one and 63 others.
abbrev pub more_files : ℕ
more_files = 63

-- The first file has scope 0.
abbrev pub LoadsFirst : (gives : FileContents) → (missing : PathSet) → Text → Outcome → Type 0
LoadsFirst gives missing path out = MayLoad gives missing more_files (whole_file path (0 ∷ [])) [] out

-- A file is missing if its read failed and raised the count, or if it wasn't found and the count stayed.
abbrev pub IsMissing : (gives : FileContents) → (fails : PathSet) → (before now : ℕ) → Text → Type 0
IsMissing gives fails before now path = (gives path None × (now ≡ before)) ⊎ (fails path × (now ≡ before + 1))

-- The answer for the manifest at a path, given the bytes that the source may return and the reads that may fail. A lack
-- of memory says nothing about the files. The count of failed reads rises only if a read failed.
abbrev pub Loads : (gives : FileContents) → (fails : PathSet) → (before now : ℕ) → Text → Outcome → Type 0
Loads gives fails before now path (Ok statements) = (now ≡ before) × LoadsFirst gives (IsMissing gives fails before now) path (Ok statements)
Loads gives fails before now path (Err LoadMemory) = now ≡ before
Loads gives fails before now path (Err (SourceMissing file)) = LoadsFirst gives (IsMissing gives fails before now) path (Err (SourceMissing file))
Loads gives fails before now path (Err fault) = (now ≡ before) × LoadsFirst gives (IsMissing gives fails before now) path (Err fault)
