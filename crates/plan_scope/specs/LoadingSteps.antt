-- Loading in steps, as the loader does it. The steps agree with the rules of Loading (proofs/RuleLemmas).
use Rattle.std.specs.Prelude.{◌≡◌, ℕ, zero, suc, ◌⊎◌, List, [], ◌∷◌, ◌++◌, Option, Some, None, Result, Ok, Err}
use Rattle.plan_parse.specs.declared.fault.ParseFault.{ParseFault}
use Rattle.plan_parse.specs.Kinds.{Statement}
use Rattle.plan_parse.specs.Statements.{statements_of}
use Rattle.plan_scope.specs.declared.fault.Cause.{Cause}
use Rattle.plan_scope.specs.declared.fault.ScopeFault.TheVariants.{SourceMissing, Parse, Refused}
use Rattle.plan_scope.specs.Trees.{TreeStatement}
use Rattle.plan_scope.specs.Scopes.{Text, lookup, bound_by}
use Rattle.plan_scope.specs.Loading.{FileContents, Outcome, PathSet, cause_to_load, included_by, scopes_in}

-- The allowed outcomes for a file, given its path, its scopes and the statements above it. An outcome is all statements
-- so far, or a fault.
abbrev pub FileAnswers : Type 1
FileAnswers = Text → List ℕ → List TreeStatement → Outcome → Type 0

-- The allowed outcomes for the rest after these statements.
abbrev pub RestAnswers : Type 1
RestAnswers = List TreeStatement → Outcome → Type 0

-- The first fault is the outcome.
abbrev pub GoesOn : RestAnswers → Outcome → Outcome → Type 0
GoesOn next (Ok statements) out = next statements out
GoesOn next (Err fault) out = out ≡ Err fault

-- A statement is refused, includes no file, or is replaced by the statements of this file.
abbrev pub LoadsStatement : FileAnswers → RestAnswers → List TreeStatement → TreeStatement → Option Cause → Option Text → Outcome → Type 0
LoadsStatement answers next above l (Some cause) file out = out ≡ Err (Refused l.path l.offset cause)
LoadsStatement answers next above l None None out = next (above ++ l ∷ []) out
LoadsStatement answers next above l None (Some file) out =
    (inner : Outcome) × answers file (scopes_in above l.scopes l.kind) above inner × GoesOn next inner out

-- The statements of a file in order, after the statements above.
abbrev pub LoadsStatements : FileAnswers → ℕ → Text → List ℕ → List TreeStatement → List Statement → Outcome → Type 0
LoadsStatements answers left path scopes above [] out = out ≡ Ok above
LoadsStatements answers left path scopes above (s ∷ more) out =
    let here = lookup (bound_by above) scopes in
    LoadsStatement answers (λ statements out. LoadsStatements answers left path scopes statements more out) above (record { path = path; scopes = scopes; offset = s.offset; kind = s.kind })
    (cause_to_load left here s.kind) (included_by here s.kind) out

abbrev pub LoadsParsed : FileAnswers → ℕ → Text → List ℕ → List TreeStatement → Result (List Statement) ParseFault → Outcome → Type 0
LoadsParsed answers left path scopes above (Ok statements) out = LoadsStatements answers left path scopes above statements out
LoadsParsed answers left path scopes above (Err fault) out = out ≡ Err (Parse path fault)

-- A file is missing because the source may report that or its read failed, or it has bytes that the source may return.
abbrev pub LoadsFile : (gives : FileContents) → (missing : PathSet) → FileAnswers → ℕ → FileAnswers
LoadsFile gives missing answers left path scopes above out =
    ((out ≡ Err (SourceMissing path)) × missing path)
    ⊎ ((bytes : List ℕ) × gives path (Some bytes) × LoadsParsed answers left path scopes above (statements_of bytes) out)

-- A file, if a number of further files may be open.
unfoldable pub LoadsWithin : (gives : FileContents) → (missing : PathSet) → ℕ → FileAnswers
LoadsWithin gives missing zero = LoadsFile gives missing (λ path scopes above out. ⊥) 0
LoadsWithin gives missing (suc left) = LoadsFile gives missing (LoadsWithin gives missing left) (suc left)
