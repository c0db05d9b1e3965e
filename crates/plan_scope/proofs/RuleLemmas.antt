-- The loader's steps allow exactly the outcomes that the rules of loading allow. Used for src/tree/loader.rt.
use Rattle.std.proofs.Common.{◌≡◌, ℕ, zero, suc, inl, inr, List, [], ◌∷◌, ◌++◌, Option, Some, None, Result, Ok, Err, refl, sym, subst}
use Rattle.plan_parse.specs.declared.fault.ParseFault.{ParseFault}
use Rattle.plan_parse.specs.Kinds.{Statement}
use Rattle.plan_parse.specs.Statements.{statements_of}
use Rattle.plan_scope.specs.declared.fault.Cause.{Cause}
use Rattle.plan_scope.specs.declared.fault.ScopeFault.TheVariants.{SourceMissing, Parse, Refused}
use Rattle.plan_scope.specs.Trees.{TreeStatement}
use Rattle.plan_scope.specs.Scopes.{Text}
use Rattle.plan_scope.specs.Loading.{FileContents, Outcome, PathSet, Job, whole_file, rest_of_file, MayLoad, is_missing, has_fault, is_read, ends, is_refused, is_added, includes_file, includes_fault, cause_to_load, included_by, names_above, placed, scopes_in}
use Rattle.plan_scope.specs.LoaderAnswers.{includes}
use Rattle.plan_scope.specs.LoadingSteps.{FileAnswers, RestAnswers, GoesOn, LoadsStatement, LoadsStatements, LoadsParsed, LoadsFile, LoadsWithin}

-- The rules allow each outcome that the steps allow for an included file.
abbrev ByRules : FileContents → PathSet → ℕ → FileAnswers → Type 0
ByRules g m zero answers = (path : Text) (scopes : List ℕ) (above : List TreeStatement) (out : Outcome) → answers path scopes above out → ⊥
ByRules g m (suc left) answers = (path : Text) (scopes : List ℕ) (above : List TreeStatement) (out : Outcome) → answers path scopes above out → MayLoad g m left (whole_file path scopes) above out

-- An included file, and the rest after it.
goes_on : (g : FileContents) (m : PathSet) (next : RestAnswers) (left : ℕ) (path : Text) (scopes : List ℕ) (s : Statement) (more : List Statement) (above : List TreeStatement) (file : Text) (inner out : Outcome)
    → ((so_far : List TreeStatement) (o : Outcome) → next so_far o → MayLoad g m (suc left) (rest_of_file path scopes more) so_far o)
    → cause_to_load (suc left) (names_above above scopes) s.kind ≡ None → included_by (names_above above scopes) s.kind ≡ Some file
    → MayLoad g m left (whole_file file (scopes_in above scopes s.kind)) above inner → GoesOn next inner out → MayLoad g m (suc left) (rest_of_file path scopes (s ∷ more)) above out
goes_on g m next left path scopes s more above file (Ok so_far) out h e f r q = includes_file left path scopes above s more file so_far out e f r (h so_far out q)
goes_on g m next left path scopes s more above file (Err fault) out h e f r q =
    subst (λ (o : Outcome). MayLoad g m (suc left) (rest_of_file path scopes (s ∷ more)) above o) (sym q) (includes_fault left path scopes above s more file fault e f r)

-- One statement, and the rest after it.
statement_by : (g : FileContents) (m : PathSet) (answers : FileAnswers) (next : RestAnswers) (left : ℕ) → ByRules g m left answers → (path : Text) (scopes : List ℕ) (s : Statement) (more : List Statement)
    → ((so_far : List TreeStatement) (o : Outcome) → next so_far o → MayLoad g m left (rest_of_file path scopes more) so_far o)
    → (above : List TreeStatement) (cause : Option Cause) (file : Option Text) (out : Outcome) → cause_to_load left (names_above above scopes) s.kind ≡ cause → included_by (names_above above scopes) s.kind ≡ file
    → LoadsStatement answers next above (placed path scopes s) cause file out → MayLoad g m left (rest_of_file path scopes (s ∷ more)) above out
statement_by g m answers next left a path scopes s more h above (Some cause) file out e f r =
    subst (λ (o : Outcome). MayLoad g m left (rest_of_file path scopes (s ∷ more)) above o) (sym r) (is_refused left path scopes above s more cause e)
statement_by g m answers next left a path scopes s more h above None None out e f r =
    is_added left path scopes above s more out e f (h (above ++ placed path scopes s ∷ []) out r)
statement_by g m answers next zero a path scopes s more h above None (Some file) out e f r = absurd (a file (scopes_in above scopes s.kind) above r.0 r.1)
statement_by g m answers next (suc left) a path scopes s more h above None (Some file) out e f r =
    goes_on g m next left path scopes s more above file r.0 out h e f (a file (scopes_in above scopes s.kind) above r.0 r.1) r.2

-- The statements of a file.
all_by : (g : FileContents) (m : PathSet) (answers : FileAnswers) (left : ℕ) → ByRules g m left answers → (path : Text) (scopes : List ℕ) (statements : List Statement) (above : List TreeStatement) (out : Outcome)
    → LoadsStatements answers left path scopes above statements out → MayLoad g m left (rest_of_file path scopes statements) above out
all_by g m answers left a path scopes [] above out r =
    subst (λ (o : Outcome). MayLoad g m left (rest_of_file path scopes []) above o) (sym r) (ends left path scopes above)
all_by g m answers left a path scopes (s ∷ more) above out r =
    statement_by g m answers (λ so_far o. LoadsStatements answers left path scopes so_far more o) left a path scopes s more (λ so_far o x. all_by g m answers left a path scopes more so_far o x)
    above (cause_to_load left (names_above above scopes) s.kind) (included_by (names_above above scopes) s.kind) out refl refl r

parsed_by : (g : FileContents) (m : PathSet) (answers : FileAnswers) (left : ℕ) → ByRules g m left answers → (path : Text) (scopes : List ℕ) (above : List TreeStatement) (bytes : List ℕ) (parsed : Result (List Statement) ParseFault) (out : Outcome)
    → g path (Some bytes) → statements_of bytes ≡ parsed → LoadsParsed answers left path scopes above parsed out → MayLoad g m left (whole_file path scopes) above out
parsed_by g m answers left a path scopes above bytes (Ok statements) out b e r =
    is_read left path scopes above bytes statements out b e (all_by g m answers left a path scopes statements above out r)
parsed_by g m answers left a path scopes above bytes (Err fault) out b e r =
    subst (λ (o : Outcome). MayLoad g m left (whole_file path scopes) above o) (sym r) (has_fault left path scopes above bytes fault b e)

file_by : (g : FileContents) (m : PathSet) (answers : FileAnswers) (left : ℕ) → ByRules g m left answers → (path : Text) (scopes : List ℕ) (above : List TreeStatement) (out : Outcome)
    → LoadsFile g m answers left path scopes above out → MayLoad g m left (whole_file path scopes) above out
file_by g m answers left a path scopes above out (inl r) =
    subst (λ (o : Outcome). MayLoad g m left (whole_file path scopes) above o) (sym r.0) (is_missing left path scopes above r.1)
file_by g m answers left a path scopes above out (inr r) = parsed_by g m answers left a path scopes above r.0 (statements_of r.0) out r.1 refl r.2

-- A file, and all files that it includes.
pub by_rules : (g : FileContents) (m : PathSet) (left : ℕ) (path : Text) (scopes : List ℕ) (above : List TreeStatement) (out : Outcome) → LoadsWithin g m left path scopes above out → MayLoad g m left (whole_file path scopes) above out
unfolding LoadsWithin
by_rules g m zero path scopes above out r = file_by g m (λ path scopes above out. ⊥) 0 (λ path scopes above out x. x) path scopes above out r
by_rules g m (suc left) path scopes above out r = file_by g m (LoadsWithin g m left) (suc left) (by_rules g m left) path scopes above out r

-- === The rules allow no other outcome ===

abbrev StepsOf : FileContents → PathSet → ℕ → Job → List TreeStatement → Outcome → Type 0
StepsOf g m left (whole_file path scopes) above out = LoadsWithin g m left path scopes above out
StepsOf g m left (rest_of_file path scopes statements) above out = LoadsStatements (includes g m left) left path scopes above statements out

within_is : (g : FileContents) (m : PathSet) (left : ℕ) (path : Text) (scopes : List ℕ) (above : List TreeStatement) (out : Outcome) → LoadsFile g m (includes g m left) left path scopes above out → LoadsWithin g m left path scopes above out
unfolding LoadsWithin
within_is g m zero path scopes above out r = r
within_is g m (suc left) path scopes above out r = r

-- A statement's step, given its cause and the file that it includes.
steps_by : (answers : FileAnswers) (next : RestAnswers) (above : List TreeStatement) (l : TreeStatement) (c cause : Option Cause) (f file : Option Text) (out : Outcome) → c ≡ cause → f ≡ file
    → LoadsStatement answers next above l cause file out → LoadsStatement answers next above l c f out
steps_by answers next above l c cause f file out e i r =
    subst (λ (x : Option Cause). LoadsStatement answers next above l x f out) (sym e) (subst (λ (y : Option Text). LoadsStatement answers next above l cause y out) (sym i) r)

-- The steps allow each outcome that the rules allow.
from_rules : (g : FileContents) (m : PathSet) (left : ℕ) (job : Job) (above : List TreeStatement) (out : Outcome) → MayLoad g m left job above out → StepsOf g m left job above out
from_rules g m left job above out (is_missing n path scopes up x) = within_is g m n path scopes up (Err (SourceMissing path)) (inl (refl, x))
from_rules g m left job above out (has_fault n path scopes up bytes fault b e) =
    within_is g m n path scopes up (Err (Parse path fault))
    (inr (bytes, b, subst (λ (x : Result (List Statement) ParseFault). LoadsParsed (includes g m n) n path scopes up x (Err (Parse path fault))) (sym e) refl))
from_rules g m left job above out (is_read n path scopes up bytes statements o b e r) =
    within_is g m n path scopes up o
    (inr (bytes, b, subst (λ (x : Result (List Statement) ParseFault). LoadsParsed (includes g m n) n path scopes up x o) (sym e) (from_rules g m n (rest_of_file path scopes statements) up o r)))
from_rules g m left job above out (ends n path scopes up) = refl
from_rules g m left job above out (is_refused n path scopes up s more cause e) =
    subst (λ (x : Option Cause). LoadsStatement (includes g m n) (λ so_far o. LoadsStatements (includes g m n) n path scopes so_far more o) up (placed path scopes s) x (included_by (names_above up scopes) s.kind) (Err (Refused path s.offset cause))) (sym e) refl
from_rules g m left job above out (is_added n path scopes up s more o e f r) =
    steps_by (includes g m n) (λ so_far x. LoadsStatements (includes g m n) n path scopes so_far more x) up (placed path scopes s) _ None _ None o e f (from_rules g m n (rest_of_file path scopes more) (up ++ placed path scopes s ∷ []) o r)
from_rules g m left job above out (includes_file n path scopes up s more inner so_far o e f r q) =
    steps_by (LoadsWithin g m n) (λ so_far x. LoadsStatements (LoadsWithin g m n) (suc n) path scopes so_far more x) up (placed path scopes s) _ None _ (Some inner) o e f
    (Ok so_far, from_rules g m n (whole_file inner (scopes_in up scopes s.kind)) up (Ok so_far) r, from_rules g m (suc n) (rest_of_file path scopes more) so_far o q)
from_rules g m left job above out (includes_fault n path scopes up s more inner fault e f r) =
    steps_by (LoadsWithin g m n) (λ so_far x. LoadsStatements (LoadsWithin g m n) (suc n) path scopes so_far more x) up (placed path scopes s) _ None _ (Some inner) (Err fault) e f
    (Err fault, from_rules g m n (whole_file inner (scopes_in up scopes s.kind)) up (Err fault) r, refl)
