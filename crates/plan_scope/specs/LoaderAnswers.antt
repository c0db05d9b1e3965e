-- Answers of the loader's functions.
use Rattle.std.specs.Prelude.{◌≡◌, ℕ, zero, suc, Bool, false, List, Option, Some, None, Result, Ok, Err}
use Rattle.plan_text.specs.declared.piece_reader.Piece.{Piece}
use Rattle.plan_parse.specs.Kinds.{StatementKind}
use Rattle.plan_parse.specs.Kinds as kind
use Rattle.plan_parse.specs.Statements.{statements_of}
use Rattle.plan_scope.specs.declared.fault.Cause.{Cause}
use Rattle.plan_scope.specs.declared.fault.Cause.TheVariants.{TextTooLong}
use Rattle.plan_scope.specs.declared.fault.StatementFault.{StatementFault}
use Rattle.plan_scope.specs.declared.fault.StatementFault.TheVariants as statement
use Rattle.plan_scope.specs.declared.fault.ReadFault.{ReadFault}
use Rattle.plan_scope.specs.declared.fault.ReadFault.TheVariants as read
use Rattle.plan_scope.specs.declared.fault.ScopeFault.{ScopeFault}
use Rattle.plan_scope.specs.declared.fault.ScopeFault.TheVariants.{SourceMissing, Refused, LoadMemory}
use Rattle.plan_scope.specs.ParsedTexts.{ParsedText, statements_in}
use Rattle.plan_scope.specs.Trees.{TreeStatement}
use Rattle.plan_scope.specs.Scopes.{Text, lookup, bound_by}
use Rattle.plan_scope.specs.Loading.{FileContents, Outcome, PathSet, IsMissing, cause_to_load, included_by}
use Rattle.plan_scope.specs.LoadingSteps.{FileAnswers, LoadsStatement, LoadsWithin}

-- No file is missing.
abbrev pub never : PathSet
never path = ⊥

-- The answer for statements, given the files that may be missing and the outcomes that are then allowed. A fault of
-- memory says nothing about the statements. The count of failed reads rises only if a read failed.
abbrev pub Answers : (gives : FileContents) → (fails : PathSet) → (before now : ℕ) → ((missing : PathSet) → Outcome → Type 0) → Outcome → Type 0
Answers gives fails before now may (Ok statements) = (now ≡ before) × may never (Ok statements)
Answers gives fails before now may (Err LoadMemory) = now ≡ before
Answers gives fails before now may (Err (SourceMissing path)) = may (IsMissing gives fails before now) (Err (SourceMissing path))
Answers gives fails before now may (Err fault) = (now ≡ before) × may never (Err fault)

-- The answers for a file that another one includes, if `left` more files may be open.
abbrev pub includes : (gives : FileContents) → (missing : PathSet) → ℕ → FileAnswers
includes gives missing zero = λ path scopes above out. ⊥
includes gives missing (suc left) = LoadsWithin gives missing left

-- One statement, with the statements of the file that it includes.
abbrev pub LoadsOne : FileAnswers → ℕ → List TreeStatement → TreeStatement → Outcome → Type 0
LoadsOne answers left above l out =
    let here = lookup (bound_by above) l.scopes in
    LoadsStatement answers (λ statements out. out ≡ Ok statements) above l (cause_to_load left here l.kind) (included_by here l.kind) out

-- The result of parsing a file's bytes.
abbrev pub IsParsed : List ℕ → Result ParsedText ReadFault → Type 0
IsParsed bytes (Ok parsed) = (parsed.text ≡ bytes) × (statements_of bytes ≡ Ok (statements_in parsed))
IsParsed bytes (Err read.Missing) = ⊥
IsParsed bytes (Err (read.Parse fault)) = statements_of bytes ≡ Err fault
IsParsed bytes (Err read.Memory) = Unit {0}

-- The result of reading and parsing a file.
abbrev pub IsRead : (gives : FileContents) → (fails : PathSet) → (before now : ℕ) → Text → Result ParsedText ReadFault → Type 0
IsRead gives fails before now path (Ok parsed) = (now ≡ before) × (bytes : List ℕ) × gives path (Some bytes) × (statements_of bytes ≡ Ok (statements_in parsed))
IsRead gives fails before now path (Err read.Missing) = IsMissing gives fails before now path
IsRead gives fails before now path (Err (read.Parse fault)) = (now ≡ before) × (bytes : List ℕ) × gives path (Some bytes) × (statements_of bytes ≡ Err fault)
IsRead gives fails before now path (Err read.Memory) = now ≡ before

-- The pieces of the path of the file that a statement includes.
abbrev pub path_included : StatementKind → Option (List Piece)
path_included (kind.Include path) = Some path
path_included (kind.Subninja path) = Some path
path_included other = None

-- The path of the file that a statement includes, or the cause for which it is refused.
abbrev pub IsIncluded : Option Cause → Option Text → Result Text StatementFault → Type 0
IsIncluded cause file (Ok path) = (cause ≡ None) × (file ≡ Some path)
IsIncluded cause file (Err (statement.Refused c)) = cause ≡ Some c
IsIncluded cause file (Err statement.Memory) = Unit {0}

-- A statement is refused.
abbrev pub IsRefusal : TreeStatement → Cause → ScopeFault → Type 0
IsRefusal l cause LoadMemory = Unit {0}
IsRefusal l cause fault = fault ≡ Refused l.path l.offset cause

-- A statement is bound, or refused if its text is too long. Any other fault is a lack of memory.
abbrev pub IsBound : TreeStatement → Bool → Result (Unit {0}) ScopeFault → Type 0
IsBound l long (Ok done) = long ≡ false
IsBound l long (Err fault) = (long ≡ false → fault ≡ LoadMemory) × IsRefusal l TextTooLong fault
