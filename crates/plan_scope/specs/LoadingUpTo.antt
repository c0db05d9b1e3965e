-- Loading the statements of a file up to one that includes another file.
use Rattle.std.specs.Prelude.{◌≡◌, ◌≢◌, ◌≤◌, ◌<◌, ◌+◌, ◌^◌, ℕ, List, ◌++◌, Option, Some, None, Result, Ok, Err, length, drop, slice_get}
use Rattle.plan_parse.specs.PathLists.{between}
use Rattle.plan_scope.specs.declared.fault.ScopeFault.{ScopeFault}
use Rattle.plan_scope.specs.declared.fault.ScopeFault.TheVariants.{LoadMemory}
use Rattle.plan_scope.specs.declared.tree.File.{File}
use Rattle.plan_scope.specs.declared.tree.loader.Include.{Include}
use Rattle.plan_scope.specs.declared.tree.loader.LoadedUpTo.{LoadedUpTo}
use Rattle.plan_scope.specs.ParsedTexts.{statements_in}
use Rattle.plan_scope.specs.Trees.{TreeStatement}
use Rattle.plan_scope.specs.FileStatements.{statements_at}
use Rattle.plan_scope.specs.Scopes.{ScopedBindings, Text, bound_by}
use Rattle.plan_scope.specs.Kept.{KeptEqScoped}
use Rattle.plan_scope.specs.Loading.{Outcome}
use Rattle.plan_scope.specs.LoadingSteps.{FileAnswers, LoadsStatements}
use Rattle.plan_scope.specs.LoaderAnswers.{path_included}

-- No file may be included.
abbrev pub no_files : FileAnswers
no_files path scopes above out = ⊥

-- The number of statements of a file before one that includes a file, or of all if none does.
abbrev pub end_of : File → Option Include → ℕ
end_of f (Some include) = include.place
end_of f None = length f.parsed.value.statements

-- A statement of a file, from the number `start` on, that includes a file.
pub record IsInclude (f : File) (start : ℕ) (i : Include) : Type 0 where
  pub after : start ≤ i.place
  pub within : i.place < length f.parsed.value.statements
  pub stands : slice_get (statements_at f) i.place ≡ Some i.statement
  pub path : path_included i.statement.kind ≡ Some i.path.now
  pub fits : i.place + 1 < 2 ^ 64

abbrev pub IsNext : File → ℕ → Option Include → Type 0
IsNext f start (Some include) = IsInclude f start include
IsNext f start None = Unit {0}

-- The outcome for the statements of a file between two numbers. They include no file, so it doesn't depend on the
-- number of files that may be open.
abbrev pub LoadsBetween : File → (start end : ℕ) → List TreeStatement → Outcome → Type 0
LoadsBetween f start end above out = (left : ℕ) → LoadsStatements no_files left f.path f.scopes above (between start end (statements_in f.parsed.value)) out

-- The same for all statements from one number on.
abbrev pub LoadsFrom : File → ℕ → List TreeStatement → Outcome → Type 0
LoadsFrom f start above out = (left : ℕ) → LoadsStatements no_files left f.path f.scopes above (drop start (statements_in f.parsed.value)) out

-- Statements, followed by those of a file between two numbers.
abbrev pub with_between : File → (start end : ℕ) → List TreeStatement → List TreeStatement
with_between f start end above = above ++ between start end (statements_at f)

-- The bindings of the file's statements between two numbers are added to the bindings before, and the statements are
-- loaded.
abbrev pub BindsBetween : File → (start end : ℕ) → (before now : ScopedBindings Text) → Type 0
BindsBetween f start end before now =
    (above : List TreeStatement) → KeptEqScoped before (bound_by above)
    → KeptEqScoped now (bound_by (with_between f start end above)) × LoadsBetween f start end above (Ok (with_between f start end above))

-- The same up to the next statement that includes a file.
pub record BindsUpTo (f : File) (start : ℕ) (before now : ScopedBindings Text) (include : Option Include) : Type 0 where
  pub next : IsNext f start include
  pub binds : BindsBetween f start (end_of f include) before now

-- The fault of a statement that binds a text which is too long, or a lack of memory.
abbrev pub RefusesUpTo : File → ℕ → ScopedBindings Text → ScopeFault → Type 0
RefusesUpTo f start before fault = fault ≢ LoadMemory → (above : List TreeStatement) → KeptEqScoped before (bound_by above) → LoadsFrom f start above (Err fault)

-- The statements of a file from one number on, up to the next one that includes a file, or their first fault.
abbrev pub LoadsUpTo : File → ℕ → List TreeStatement → Result LoadedUpTo ScopeFault → Type 0
LoadsUpTo f start above (Ok up_to) = IsNext f start up_to.include × LoadsBetween f start (end_of f up_to.include) above (Ok up_to.loaded)
LoadsUpTo f start above (Err fault) = fault ≢ LoadMemory → LoadsFrom f start above (Err fault)
