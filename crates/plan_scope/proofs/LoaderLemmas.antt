-- Loading, step by step. Used for src/tree/loader.rt.
use Rattle.std.proofs.Common.{◌≡◌, ◌≢◌, ℕ, zero, suc, ◌+◌, ◌-◌, ◌<◌, ◌≤◌, inl, inr, Bool, true, false, ◌==◌, List, [], ◌∷◌, ◌++◌, length, map, Option, Some, None, Result, Ok, Err, refl, ap, sym, subst, ◌∙◌, option_map, get_or, take, drop, arith}
use Rattle.std.specs.Prelude.{slice_get}
use Rattle.std.proofs.Math.Seq.{take-length}
use Rattle.std.proofs.lemmas.Bool.{lt-ltb, le-ltb, ne_eqb}
use Rattle.std.proofs.lemmas.List.{length-map, length-take-le, take-append-drop, take-append-le, take_more, get_or-map}
use Rattle.std.proofs.lemmas.Option.{get_or_from_slice_get, slice_get-map}
use Rattle.plan_text.specs.declared.piece_reader.Piece.{Piece}
use Rattle.plan_parse.specs.declared.fault.ParseFault.{ParseFault}
use Rattle.plan_parse.specs.declared.compact.CompactStatement.{CompactStatement}
use Rattle.plan_parse.specs.Compact.{said_in}
use Rattle.plan_parse.specs.PathLists.{between}
use Rattle.plan_parse.specs.Kinds.{Statement}
use Rattle.plan_parse.specs.Kinds.{StatementKind}
use Rattle.plan_parse.specs.Kinds as kind
use Rattle.plan_parse.specs.Statements.{statements_of}
use Rattle.plan_scope.specs.declared.fault.Cause.{Cause}
use Rattle.plan_scope.specs.declared.fault.Cause.TheVariants.{IncludeDepth, EmptyPath, PathTooLong}
use Rattle.plan_scope.specs.declared.fault.StatementFault.{StatementFault}
use Rattle.plan_scope.specs.declared.fault.ScopeFault.{ScopeFault}
use Rattle.plan_scope.specs.declared.fault.ScopeFault.TheVariants.{SourceMissing, Parse, Refused, LoadMemory, Memory}
use Rattle.plan_scope.specs.declared.tree.File.{File}
use Rattle.plan_scope.specs.declared.tree.loader.Include.{Include}
use Rattle.plan_scope.specs.ParsedTexts.{statements_in}
use Rattle.plan_scope.specs.FileStatements.{statement_at, statements_at}
use Rattle.plan_scope.specs.LoadingUpTo.{IsInclude, IsNext, LoadsBetween, LoadsFrom, end_of, no_files}
use Rattle.plan_scope.specs.Trees.{TreeStatement}
use Rattle.plan_scope.specs.Scopes.{Text, Name, lookup, expand, bound_by, is_long_path, is_empty}
use Rattle.plan_text.specs.Limits.{max_path}
use Rattle.plan_scope.specs.Kept.{kept}
use Rattle.plan_scope.specs.Loading.{FileContents, Outcome, PathSet, LoadsFirst, Loads, IsMissing, cause_of_path, cause_to_load, scopes_in, included_by}
use Rattle.plan_scope.specs.LoadingSteps.{FileAnswers, RestAnswers, GoesOn, LoadsStatement, LoadsStatements, LoadsParsed, LoadsFile, LoadsWithin}
use Rattle.plan_scope.specs.Edges.{first_of}
use Rattle.plan_scope.specs.Sources.{SameFiles}
use Rattle.plan_scope.specs.LoaderAnswers.{Answers, LoadsOne, IsIncluded, never, includes, path_included}
use Rattle.plan_scope.proofs.ListLemmas.{dropped_at}
use Rattle.plan_scope.proofs.RuleLemmas.{by_rules}
use Rattle.plan_scope.proofs.TextLemmas.{Same, same_from_kept}

-- The invariant between two statements of a file: no read failed, the source may return the same as before, and the
-- statements so far are loaded.
pub record LoadsSoFar (gives gives_now : FileContents) (fails fails_now : PathSet) (before now left : ℕ) (f : File) (above so_far : List TreeStatement) (start : ℕ) : Type 0 where
  pub unfailed : now ≡ before
  pub same : SameFiles gives_now fails_now gives fails
  pub within : start ≤ length f.parsed.value.statements
  pub is_loaded : LoadsStatements (includes gives never left) left f.path f.scopes above (take start (statements_in f.parsed.value)) (Ok so_far)

goes_wider : (next more : RestAnswers) (inner out : Outcome) → ((statements : List TreeStatement) (o : Outcome) → next statements o → more statements o) → GoesOn next inner out → GoesOn more inner out
goes_wider next more (Ok statements) out h r = h statements out r
goes_wider next more (Err fault) out h r = r

statement_wider : (answers wide : FileAnswers) (next more : RestAnswers) → ((path : Text) (scopes : List ℕ) (above : List TreeStatement) (out : Outcome) → answers path scopes above out → wide path scopes above out)
    → ((statements : List TreeStatement) (o : Outcome) → next statements o → more statements o)
    → (above : List TreeStatement) (l : TreeStatement) (cause : Option Cause) (file : Option Text) (out : Outcome) → LoadsStatement answers next above l cause file out → LoadsStatement wide more above l cause file out
statement_wider answers wide next more t n above l (Some cause) file out r = r
statement_wider answers wide next more t n above l None None out r = n (above ++ l ∷ []) out r
statement_wider answers wide next more t n above l None (Some file) out r =
    (r.0, t file (scopes_in above l.scopes l.kind) above r.0 r.1, goes_wider next more r.0 out n r.2)

-- If the answers for included files allow more, each load stays allowed.
all_wider : (answers wide : FileAnswers) → ((path : Text) (scopes : List ℕ) (above : List TreeStatement) (out : Outcome) → answers path scopes above out → wide path scopes above out)
    → (left : ℕ) (path : Text) (scopes : List ℕ) (statements : List Statement) (above : List TreeStatement) (out : Outcome)
    → LoadsStatements answers left path scopes above statements out → LoadsStatements wide left path scopes above statements out
all_wider answers wide t left path scopes [] above out r = r
all_wider answers wide t left path scopes (s ∷ more) above out r =
    statement_wider answers wide (λ statements o. LoadsStatements answers left path scopes statements more o) (λ statements o. LoadsStatements wide left path scopes statements more o) t
    (λ statements o. all_wider answers wide t left path scopes more statements o) above (record { path = path; scopes = scopes; offset = s.offset; kind = s.kind })
    (cause_to_load left (lookup (bound_by above) scopes) s.kind) (included_by (lookup (bound_by above) scopes) s.kind) out r

parsed_wider : (answers wide : FileAnswers) → ((path : Text) (scopes : List ℕ) (above : List TreeStatement) (out : Outcome) → answers path scopes above out → wide path scopes above out)
    → (left : ℕ) (path : Text) (scopes : List ℕ) (above : List TreeStatement) (parsed : Result (List Statement) ParseFault) (out : Outcome)
    → LoadsParsed answers left path scopes above parsed out → LoadsParsed wide left path scopes above parsed out
parsed_wider answers wide t left path scopes above (Ok statements) out r = all_wider answers wide t left path scopes statements above out r
parsed_wider answers wide t left path scopes above (Err fault) out r = r

file_wider : (g h : FileContents) (m n : PathSet) (answers wide : FileAnswers) (left : ℕ) → ((p : Text) (bytes : Option (List ℕ)) → g p bytes → h p bytes) → ((p : Text) → m p → n p)
    → ((path : Text) (scopes : List ℕ) (above : List TreeStatement) (out : Outcome) → answers path scopes above out → wide path scopes above out)
    → (path : Text) (scopes : List ℕ) (above : List TreeStatement) (out : Outcome) → LoadsFile g m answers left path scopes above out → LoadsFile h n wide left path scopes above out
file_wider g h m n answers wide left gh mn t path scopes above out (inl r) = inl (r.0, mn path r.1)
file_wider g h m n answers wide left gh mn t path scopes above out (inr r) =
    inr (r.0, gh path (Some r.0) r.1, parsed_wider answers wide t left path scopes above (statements_of r.0) out r.2)

-- If a source may return more, or more files may be missing, each load stays allowed.
within_wider : (g h : FileContents) (m n : PathSet) → ((p : Text) (bytes : Option (List ℕ)) → g p bytes → h p bytes) → ((p : Text) → m p → n p)
    → (left : ℕ) (path : Text) (scopes : List ℕ) (above : List TreeStatement) (out : Outcome) → LoadsWithin g m left path scopes above out → LoadsWithin h n left path scopes above out
unfolding LoadsWithin
within_wider g h m n gh mn zero path scopes above out r =
    file_wider g h m n (λ path scopes above out. ⊥) (λ path scopes above out. ⊥) 0 gh mn (λ path scopes above out x. x) path scopes above out r
within_wider g h m n gh mn (suc left) path scopes above out r =
    file_wider g h m n (LoadsWithin g m left) (LoadsWithin h n left) (suc left) gh mn (within_wider g h m n gh mn left) path scopes above out r

includes_wider : (g h : FileContents) (m n : PathSet) → ((p : Text) (bytes : Option (List ℕ)) → g p bytes → h p bytes) → ((p : Text) → m p → n p)
    → (left : ℕ) (path : Text) (scopes : List ℕ) (above : List TreeStatement) (out : Outcome) → includes g m left path scopes above out → includes h n left path scopes above out
includes_wider g h m n gh mn zero path scopes above out r = r
includes_wider g h m n gh mn (suc left) path scopes above out r = within_wider g h m n gh mn left path scopes above out r

file_is : (g : FileContents) (m : PathSet) (left : ℕ) (path : Text) (scopes : List ℕ) (above : List TreeStatement) (out : Outcome) → LoadsFile g m (includes g m left) left path scopes above out → LoadsWithin g m left path scopes above out
unfolding LoadsWithin
file_is g m zero path scopes above out r = r
file_is g m (suc left) path scopes above out r = r

missing_wider : (g h : FileContents) (f k : PathSet) (b c n : ℕ) → ((p : Text) (bytes : Option (List ℕ)) → g p bytes → h p bytes) → ((p : Text) → f p → k p) → b ≡ c → (p : Text) → IsMissing g f b n p → IsMissing h k c n p
missing_wider g h f k b c n gh fk e p (inl r) = inl (gh p None r.0, r.1 ∙ e)
missing_wider g h f k b c n gh fk e p (inr r) = inr (fk p r.0, r.1 ∙ ap (λ (x : ℕ). x + 1) e)

-- If a source may return the same after each of two steps, it may after both.
pub same_files : (g h i : FileContents) (e f k : PathSet) → SameFiles g e h f → SameFiles h f i k → SameFiles g e i k
same_files g h i e f k a b = (
  λ p bytes. (λ x. (b.0 p bytes).0 ((a.0 p bytes).0 x), λ x. (a.0 p bytes).1 ((b.0 p bytes).1 x)),
  λ p. (λ x. (b.1 p).0 ((a.1 p).0 x), λ x. (a.1 p).1 ((b.1 p).1 x)),
)

-- An answer stays allowed if the count of failed reads was the same before.
answers_wider : (g h : FileContents) (f k : PathSet) (b c n : ℕ) (R S : PathSet → Outcome → Type 0) (result : Outcome) → ((p : Text) (bytes : Option (List ℕ)) → g p bytes → h p bytes) → ((p : Text) → f p → k p) → b ≡ c
    → ((m o : PathSet) → ((p : Text) → m p → o p) → R m result → S o result) → Answers g f b n R result → Answers h k c n S result
answers_wider g h f k b c n R S (Ok statements) gh fk e w r = (r.0 ∙ e, w never never (λ p x. x) r.1)
answers_wider g h f k b c n R S (Err LoadMemory) gh fk e w r = r ∙ e
answers_wider g h f k b c n R S (Err (SourceMissing path)) gh fk e w r = w (IsMissing g f b n) (IsMissing h k c n) (missing_wider g h f k b c n gh fk e) r
answers_wider g h f k b c n R S (Err (Parse path fault)) gh fk e w r = (r.0 ∙ e, w never never (λ p x. x) r.1)
answers_wider g h f k b c n R S (Err (Refused path offset cause)) gh fk e w r = (r.0 ∙ e, w never never (λ p x. x) r.1)
answers_wider g h f k b c n R S (Err Memory) gh fk e w r = (r.0 ∙ e, w never never (λ p x. x) r.1)

-- A file that is missing.
pub missing_file : (g : FileContents) (f : PathSet) (b n left : ℕ) (asked path : Text) (scopes : List ℕ) (above : List TreeStatement) → asked ≡ path → IsMissing g f b n asked → LoadsWithin g (IsMissing g f b n) left path scopes above (Err (SourceMissing path))
missing_file g f b n left asked path scopes above e r = file_is g (IsMissing g f b n) left path scopes above (Err (SourceMissing path)) (inl (refl, subst (IsMissing g f b n) e r))

-- A file whose bytes aren't a list of statements.
pub unparsed_file : (g : FileContents) (left : ℕ) (asked path : Text) (scopes : List ℕ) (above : List TreeStatement) (fault : ParseFault) → asked ≡ path
    → ((bytes : List ℕ) × g asked (Some bytes) × (statements_of bytes ≡ Err fault)) → LoadsWithin g never left path scopes above (Err (Parse path fault))
unparsed_file g left asked path scopes above fault e r =
    file_is g never left path scopes above (Err (Parse path fault))
    (inr (r.0, subst (λ (p : Text). g p (Some r.0)) e r.1, subst (λ (x : Result (List Statement) ParseFault). LoadsParsed (includes g never left) left path scopes above x (Err (Parse path fault))) (sym r.2) refl))

-- A file with these statements.
pub parsed_file : (g h : FileContents) (f k : PathSet) (b c n left : ℕ) (asked path : Text) (scopes : List ℕ) (above : List TreeStatement) (statements : List Statement) (result : Outcome) → asked ≡ path
    → ((p : Text) (bytes : Option (List ℕ)) → g p bytes → h p bytes) → ((p : Text) → f p → k p) → b ≡ c
    → ((bytes : List ℕ) × h asked (Some bytes) × (statements_of bytes ≡ Ok statements))
    → Answers g f b n (λ missing out. LoadsStatements (includes g missing left) left path scopes above statements out) result
    → Answers h k c n (λ missing out. LoadsWithin h missing left path scopes above out) result
parsed_file g h f k b c n left asked path scopes above statements result e gh fk s r a =
    answers_wider g h f k b c n (λ missing out. LoadsStatements (includes g missing left) left path scopes above statements out) (λ missing out. LoadsWithin h missing left path scopes above out) result gh fk s
    (λ m o mo x. file_is h o left path scopes above result
    (inr (
      r.0,
      subst (λ (p : Text). h p (Some r.0)) e r.1,
      subst (λ (y : Result (List Statement) ParseFault). LoadsParsed (includes h o left) left path scopes above y result) (sym r.2)
          (all_wider (includes g m left) (includes h o left) (includes_wider g h m o gh mo left) left path scopes statements above result x),
    ))) a

goes_then : (next more : RestAnswers) (inner : Outcome) (statements : List TreeStatement) (out : Outcome) → ((mid : List TreeStatement) → next mid (Ok statements) → more mid out) → GoesOn next inner (Ok statements) → GoesOn more inner out
goes_then next more (Ok mid) statements out h r = h mid r
goes_then next more (Err fault) statements out h r = cc

statement_then : (answers : FileAnswers) (next more : RestAnswers) (above : List TreeStatement) (l : TreeStatement) (statements : List TreeStatement) (out : Outcome) → ((mid : List TreeStatement) → next mid (Ok statements) → more mid out)
    → (cause : Option Cause) (file : Option Text) → LoadsStatement answers next above l cause file (Ok statements) → LoadsStatement answers more above l cause file out
statement_then answers next more above l statements out h (Some cause) file r = cc
statement_then answers next more above l statements out h None None r = h (above ++ l ∷ []) r
statement_then answers next more above l statements out h None (Some file) r = (r.0, r.1, goes_then next more r.0 statements out h r.2)

-- Statements, followed by others.
pub all_then : (answers : FileAnswers) (left : ℕ) (path : Text) (scopes : List ℕ) (front back : List Statement) (above statements : List TreeStatement) (out : Outcome)
    → LoadsStatements answers left path scopes above front (Ok statements) → LoadsStatements answers left path scopes statements back out → LoadsStatements answers left path scopes above (front ++ back) out
all_then answers left path scopes [] back above statements out r q =
    let e : statements ≡ above = cc in
    subst (λ (x : List TreeStatement). LoadsStatements answers left path scopes x back out) e q
all_then answers left path scopes (s ∷ more) back above statements out r q =
    statement_then answers (λ mid o. LoadsStatements answers left path scopes mid more o) (λ mid o. LoadsStatements answers left path scopes mid (more ++ back) o) above (record { path = path; scopes = scopes; offset = s.offset; kind = s.kind }) statements out
    (λ mid x. all_then answers left path scopes more back mid statements out x q)
    (cause_to_load left (lookup (bound_by above) scopes) s.kind) (included_by (lookup (bound_by above) scopes) s.kind) r

goes_stop : (more : RestAnswers) (inner : Outcome) (fault : ScopeFault) → GoesOn (λ statements out. out ≡ Ok statements) inner (Err fault) → GoesOn more inner (Err fault)
goes_stop more (Ok statements) fault r = cc
goes_stop more (Err other) fault r = r

-- A fault of a statement is the fault of the whole file.
one_stops : (answers : FileAnswers) (more : RestAnswers) (above : List TreeStatement) (l : TreeStatement) (fault : ScopeFault) (cause : Option Cause) (file : Option Text)
    → LoadsStatement answers (λ statements out. out ≡ Ok statements) above l cause file (Err fault) → LoadsStatement answers more above l cause file (Err fault)
one_stops answers more above l fault (Some cause) file r = r
one_stops answers more above l fault None None r = cc
one_stops answers more above l fault None (Some file) r = (r.0, r.1, goes_stop more r.0 fault r.2)

one_wider : (g h : FileContents) (m n : PathSet) → ((p : Text) (bytes : Option (List ℕ)) → g p bytes → h p bytes) → ((p : Text) → m p → n p)
    → (left : ℕ) (above : List TreeStatement) (l : TreeStatement) (out : Outcome) → LoadsOne (includes g m left) left above l out → LoadsOne (includes h n left) left above l out
one_wider g h m n gh mn left above l out r =
    statement_wider (includes g m left) (includes h n left) (λ statements o. o ≡ Ok statements) (λ statements o. o ≡ Ok statements) (includes_wider g h m n gh mn left) (λ statements o x. x) above l
    (cause_to_load left (lookup (bound_by above) l.scopes) l.kind) (included_by (lookup (bound_by above) l.scopes) l.kind) out r

-- One more statement is loaded.
goes_on : (g h : FileContents) (left : ℕ) (path : Text) (scopes : List ℕ) (front : List Statement) (s : Statement) (above mid statements : List TreeStatement)
    → ((p : Text) (bytes : Option (List ℕ)) → g p bytes → h p bytes)
    → LoadsStatements (includes h never left) left path scopes above front (Ok mid)
    → LoadsOne (includes g never left) left mid (record { path = path; scopes = scopes; offset = s.offset; kind = s.kind }) (Ok statements)
    → LoadsStatements (includes h never left) left path scopes above (front ++ s ∷ []) (Ok statements)
goes_on g h left path scopes front s above mid statements gh r q =
    all_then (includes h never left) left path scopes front (s ∷ []) above mid (Ok statements) r
    (one_wider g h never never gh (λ p x. x) left mid (record { path = path; scopes = scopes; offset = s.offset; kind = s.kind }) (Ok statements) q)

-- A statement isn't loaded.
stops : (g h : FileContents) (f k : PathSet) (b c n left : ℕ) (path : Text) (scopes : List ℕ) (front : List Statement) (s : Statement) (back all : List Statement) (above mid : List TreeStatement) (fault : ScopeFault)
    → ((p : Text) (bytes : Option (List ℕ)) → g p bytes → h p bytes) → ((p : Text) → f p → k p) → b ≡ c → front ++ s ∷ back ≡ all
    → LoadsStatements (includes h never left) left path scopes above front (Ok mid)
    → Answers g f b n (λ missing out. LoadsOne (includes g missing left) left mid (record { path = path; scopes = scopes; offset = s.offset; kind = s.kind }) out) (Err fault)
    → Answers h k c n (λ missing out. LoadsStatements (includes h missing left) left path scopes above all out) (Err fault)
stops g h f k b c n left path scopes front s back all above mid fault gh fk e w r a =
    let l : TreeStatement = record { path = path; scopes = scopes; offset = s.offset; kind = s.kind } in
    answers_wider g h f k b c n (λ missing out. LoadsOne (includes g missing left) left mid l out) (λ missing out. LoadsStatements (includes h missing left) left path scopes above all out) (Err fault) gh fk e
    (λ m wide mw x. subst (λ (x : List Statement). LoadsStatements (includes h wide left) left path scopes above x (Err fault)) w
    (all_then (includes h wide left) left path scopes front (s ∷ back) above mid (Err fault)
    (all_wider (includes h never left) (includes h wide left) (includes_wider h h never wide (λ p bytes x. x) (λ p x. absurd x) left) left path scopes front above (Ok mid) r)
    (one_stops (includes h wide left) (λ statements o. LoadsStatements (includes h wide left) left path scopes statements back o) mid l fault
    (cause_to_load left (lookup (bound_by mid) scopes) s.kind) (included_by (lookup (bound_by mid) scopes) s.kind)
    (one_wider g h m wide gh mw left mid l (Err fault) x)))) a

-- A fault, whatever files are missing.
fault_answer : (h : FileContents) (k : PathSet) (c n : ℕ) (R : PathSet → Outcome → Type 0) (fault : ScopeFault) → n ≡ c → ((m : PathSet) → fault ≢ LoadMemory → R m (Err fault)) → Answers h k c n R (Err fault)
fault_answer h k c n R LoadMemory e r = e
fault_answer h k c n R (SourceMissing path) e r = r (IsMissing h k c n) (λ x. cc)
fault_answer h k c n R (Parse path fault) e r = (e, r never (λ x. cc))
fault_answer h k c n R (Refused path offset cause) e r = (e, r never (λ x. cc))
fault_answer h k c n R Memory e r = (e, r never (λ x. cc))

-- Items up to one number, followed by those up to another.
take_then : {X : Type 0} (start end : ℕ) (xs : List X) → start ≤ end → end ≤ length xs → take start xs ++ between start end xs ≡ take end xs
take_then start end xs le lt =
    let f : length (take end xs) ≡ end = length-take-le end xs lt in
    ap (λ x. x ++ between start end xs)
    (ap (take start) (sym (take-append-drop end xs)) ∙ take-append-le start (take end xs) (drop end xs) (omega (arith, f, le)))
    ∙ take-append-drop start (take end xs)

-- Statements that include no file, whatever may be included.
from_none : (answers : FileAnswers) (left : ℕ) (path : Text) (scopes : List ℕ) (statements : List Statement) (above : List TreeStatement) (out : Outcome) → LoadsStatements no_files left path scopes above statements out → LoadsStatements answers left path scopes above statements out
from_none answers left path scopes statements above out r = all_wider no_files answers (λ p s a o x. absurd x) left path scopes statements above out r

-- Statements that include no file, after those so far.
up_to_more : (h : FileContents) (left : ℕ) (f : File) (start end : ℕ) (above mid statements : List TreeStatement) → start ≤ end → end ≤ length f.parsed.value.statements
    → LoadsStatements (includes h never left) left f.path f.scopes above (take start (statements_in f.parsed.value)) (Ok mid)
    → LoadsBetween f start end mid (Ok statements)
    → LoadsStatements (includes h never left) left f.path f.scopes above (take end (statements_in f.parsed.value)) (Ok statements)
up_to_more h left f start end above mid statements le lt r q =
    let all = statements_in f.parsed.value in
    let within : end ≤ length all = subst (λ (n : ℕ). end ≤ n) (sym (length-map f.parsed.value.statements (said_in f.parsed.value.text f.parsed.value.lists))) lt in
    subst (λ (x : List Statement). LoadsStatements (includes h never left) left f.path f.scopes above x (Ok statements)) (take_then start end all le within)
    (all_then (includes h never left) left f.path f.scopes (take start all) (between start end all) above mid (Ok statements) r
    (from_none (includes h never left) left f.path f.scopes (between start end all) mid (Ok statements) (q left)))

-- No statement after those so far includes a file.
pub up_to_ends : (h : FileContents) (left : ℕ) (f : File) (start : ℕ) (above mid statements : List TreeStatement) (include : Option Include) → include ≡ None → start ≤ length f.parsed.value.statements
    → LoadsStatements (includes h never left) left f.path f.scopes above (take start (statements_in f.parsed.value)) (Ok mid)
    → LoadsBetween f start (end_of f include) mid (Ok statements)
    → LoadsStatements (includes h never left) left f.path f.scopes above (statements_in f.parsed.value) (Ok statements)
up_to_ends h left f start above mid statements include e le r q =
    let all = statements_in f.parsed.value in
    let count = length f.parsed.value.statements in
    let same : length all ≡ count = length-map f.parsed.value.statements (said_in f.parsed.value.text f.parsed.value.lists) in
    subst (λ (x : List Statement). LoadsStatements (includes h never left) left f.path f.scopes above x (Ok statements)) (ap (λ (n : ℕ). take n all) (sym same) ∙ take-length all)
    (up_to_more h left f start count above mid statements le (omega arith) r (subst (λ (o : Option Include). LoadsBetween f start (end_of f o) mid (Ok statements)) e q))

-- A fault of a statement that includes no file, after those so far.
pub up_to_stops : (h : FileContents) (k : PathSet) (c n left : ℕ) (f : File) (start : ℕ) (above mid : List TreeStatement) (fault : ScopeFault) → n ≡ c
    → LoadsStatements (includes h never left) left f.path f.scopes above (take start (statements_in f.parsed.value)) (Ok mid)
    → (fault ≢ LoadMemory → LoadsFrom f start mid (Err fault))
    → Answers h k c n (λ missing out. LoadsStatements (includes h missing left) left f.path f.scopes above (statements_in f.parsed.value) out) (Err fault)
up_to_stops h k c n left f start above mid fault e r q =
    let all = statements_in f.parsed.value in
    fault_answer h k c n (λ missing out. LoadsStatements (includes h missing left) left f.path f.scopes above all out) fault e
    (λ m not. subst (λ (x : List Statement). LoadsStatements (includes h m left) left f.path f.scopes above x (Err fault)) (take-append-drop start all)
    (all_then (includes h m left) left f.path f.scopes (take start all) (drop start all) above mid (Err fault)
    (all_wider (includes h never left) (includes h m left) (includes_wider h h never m (λ p bytes x. x) (λ p x. absurd x) left) left f.path f.scopes (take start all) above (Ok mid) r)
    (from_none (includes h m left) left f.path f.scopes (drop start all) mid (Err fault) (q not left))))

-- The statement of a file at this place.
abbrev StandsAt : File → ℕ → TreeStatement → Type 0
StandsAt f place l = (c : CompactStatement) × (get_or f.parsed.value.statements place c ≡ c) × (l ≡ statement_at f c)

stands_at : (f : File) (place : ℕ) (l : TreeStatement) → slice_get (statements_at f) place ≡ Some l → StandsAt f place l
stands_at f place l e = found (slice_get f.parsed.value.statements place) refl (sym (slice_get-map (statement_at f) f.parsed.value.statements place) ∙ e)
  where
    found : (o : Option CompactStatement) → slice_get f.parsed.value.statements place ≡ o → option_map (statement_at f) o ≡ Some l → StandsAt f place l
    found None is e = cc
    found (Some c) is e = let same : statement_at f c ≡ l = cc in (c, get_or_from_slice_get f.parsed.value.statements place c c is, sym same)

-- A statement that includes a file sees the scopes of its file.
pub included_scopes : (f : File) (start : ℕ) (include : Option Include) (i : Include) → include ≡ Some i → IsNext f start include → 0 < length f.scopes → 0 < length i.statement.scopes
included_scopes f start include i e next lt =
    let at : IsInclude f start i = subst (λ (o : Option Include). IsNext f start o) e next in
    let s = stands_at f i.place i.statement at.stands in
    subst (λ (x : TreeStatement). 0 < length x.scopes) (sym s.2) lt

pub next_is : (f : File) (start : ℕ) (include : Option Include) (i : Include) → include ≡ Some i → IsNext f start include → IsInclude f start i
next_is f start include i e next = subst (λ (o : Option Include). IsNext f start o) e next

-- The item at a place, under a function.
seen_at : {X Y : Type 0} (g : X → Y) (xs : List X) (n : ℕ) (x : X) → n < length xs → get_or xs n x ≡ x → get_or (map g xs) n (g x) ≡ g x
seen_at g xs n x lt e = get_or-map g xs n x (g x) lt ∙ ap g e

-- Statements that include no file, after those so far, and then one that includes a file.
pub include_more : (g h : FileContents) (left : ℕ) (f : File) (start : ℕ) (include : Option Include) (i : Include) (above mid plain statements : List TreeStatement) → ((p : Text) (bytes : Option (List ℕ)) → g p bytes → h p bytes)
    → include ≡ Some i → IsNext f start include
    → LoadsStatements (includes h never left) left f.path f.scopes above (take start (statements_in f.parsed.value)) (Ok mid)
    → LoadsBetween f start (end_of f include) mid (Ok plain)
    → LoadsOne (includes g never left) left plain i.statement (Ok statements)
    → LoadsStatements (includes h never left) left f.path f.scopes above (take (i.place + 1) (statements_in f.parsed.value)) (Ok statements)
include_more g h left f start include i above mid plain statements gh e next r q one =
    let all = statements_in f.parsed.value in
    let said = said_in f.parsed.value.text f.parsed.value.lists in
    let at = next_is f start include i e next in
    let s = stands_at f i.place i.statement at.stands in
    let lt : i.place < length all = subst (λ (n : ℕ). i.place < n) (sym (length-map f.parsed.value.statements said)) at.within in
    let front = up_to_more h left f start i.place above mid plain at.after (omega (arith, at.within)) r (subst (λ (o : Option Include). LoadsBetween f start (end_of f o) mid (Ok plain)) e q) in
    let whole : take (i.place + 1) all ≡ take i.place all ++ said s.0 ∷ [] = take_more all i.place (said s.0) lt ∙ ap (λ (x : Statement). take i.place all ++ x ∷ []) (seen_at said f.parsed.value.statements i.place s.0 at.within s.1) in
    subst (λ (x : List Statement). LoadsStatements (includes h never left) left f.path f.scopes above x (Ok statements)) (sym whole)
    (goes_on g h left f.path f.scopes (take i.place all) (said s.0) above plain statements gh front
    (subst (λ (l : TreeStatement). LoadsOne (includes g never left) left plain l (Ok statements)) s.2 one))

-- The same if the including statement has a fault.
pub include_stops : (g h : FileContents) (fails k : PathSet) (b c n left : ℕ) (f : File) (start : ℕ) (include : Option Include) (i : Include) (above mid plain : List TreeStatement) (fault : ScopeFault)
    → ((p : Text) (bytes : Option (List ℕ)) → g p bytes → h p bytes) → ((p : Text) → fails p → k p) → b ≡ c
    → include ≡ Some i → IsNext f start include
    → LoadsStatements (includes h never left) left f.path f.scopes above (take start (statements_in f.parsed.value)) (Ok mid)
    → LoadsBetween f start (end_of f include) mid (Ok plain)
    → Answers g fails b n (λ missing out. LoadsOne (includes g missing left) left plain i.statement out) (Err fault)
    → Answers h k c n (λ missing out. LoadsStatements (includes h missing left) left f.path f.scopes above (statements_in f.parsed.value) out) (Err fault)
include_stops g h fails k b c n left f start include i above mid plain fault gh fk bc e next r q one =
    let all = statements_in f.parsed.value in
    let said = said_in f.parsed.value.text f.parsed.value.lists in
    let at = next_is f start include i e next in
    let s = stands_at f i.place i.statement at.stands in
    let lt : i.place < length all = subst (λ (n : ℕ). i.place < n) (sym (length-map f.parsed.value.statements said)) at.within in
    let front = up_to_more h left f start i.place above mid plain at.after (omega (arith, at.within)) r (subst (λ (o : Option Include). LoadsBetween f start (end_of f o) mid (Ok plain)) e q) in
    let whole : take i.place all ++ said s.0 ∷ drop (i.place + 1) all ≡ all =
    ap (λ (x : List Statement). take i.place all ++ x)
    (ap (λ (x : Statement). x ∷ drop (i.place + 1) all) (sym (seen_at said f.parsed.value.statements i.place s.0 at.within s.1)) ∙ sym (dropped_at all i.place (said s.0) lt))
    ∙ take-append-drop i.place all in
    stops g h fails k b c n left f.path f.scopes (take i.place all) (said s.0) (drop (i.place + 1) all) all above plain fault gh fk bc whole front
    (subst (λ (l : TreeStatement). Answers g fails b n (λ missing out. LoadsOne (includes g missing left) left plain l out) (Err fault)) s.2 one)

-- A statement that includes a file.
pub includes_file : (g : FileContents) (f : PathSet) (b n left : ℕ) (above : List TreeStatement) (l : TreeStatement) (path : Text) (result : Outcome)
    → cause_to_load left (lookup (bound_by above) l.scopes) l.kind ≡ None → included_by (lookup (bound_by above) l.scopes) l.kind ≡ Some path → 0 < left
    → Answers g f b n (λ missing out. LoadsWithin g missing (left - 1) path (scopes_in above l.scopes l.kind) above out) result
    → Answers g f b n (λ missing out. LoadsOne (includes g missing left) left above l out) result
includes_file g f b n left above l path result none some lt a =
    let one : suc (left - 1) ≡ left = omega (arith, lt) in
    answers_wider g g f f b b n (λ missing out. LoadsWithin g missing (left - 1) path (scopes_in above l.scopes l.kind) above out)
    (λ missing out. LoadsOne (includes g missing left) left above l out) result (λ p bytes x. x) (λ p x. x) refl
    (λ m k mk x. subst (λ (c : Option Cause). LoadsStatement (includes g k left) (λ statements out. out ≡ Ok statements) above l c (included_by (lookup (bound_by above) l.scopes) l.kind) result) (sym none)
    (subst (λ (f : Option Text). LoadsStatement (includes g k left) (λ statements out. out ≡ Ok statements) above l None f result) (sym some) (
      result,
      subst (λ (i : ℕ). includes g k i path (scopes_in above l.scopes l.kind) above result) one
          (within_wider g g m k (λ p bytes x. x) mk (left - 1) path (scopes_in above l.scopes l.kind) above result x),
      ends result,
    ))) a
  where
    ends : (out : Outcome) → GoesOn (λ statements o. o ≡ Ok statements) out out
    ends (Ok statements) = refl
    ends (Err fault) = refl

abbrev three : Bool → Bool → Bool → Option Cause
three deep empty long = first_of ((deep, IncludeDepth) ∷ (empty, EmptyPath) ∷ (long, PathTooLong) ∷ [])

same_cause : (left : ℕ) (a b : Text) → Same a b → cause_of_path left a ≡ cause_of_path left b
same_cause left a b (inl e) = ap (cause_of_path left) e
same_cause left a b (inr h) =
    let p : is_empty a ≡ false = ne_eqb (length a) 0 (λ e. omega (arith, e, h.0)) in
    let q : is_empty b ≡ false = ne_eqb (length b) 0 (λ e. omega (arith, e, h.1)) in
    let r : is_long_path a ≡ true = lt-ltb max_path (length a) (omega (arith, h.0)) in
    let s : is_long_path b ≡ true = lt-ltb max_path (length b) (omega (arith, h.1)) in
    ap (λ (t : Bool). three (left == 0) t (is_long_path a)) (p ∙ sym q) ∙ ap (λ (t : Bool). three (left == 0) (is_empty b) t) (r ∙ sym s)

-- A path without bytes.
pub empty_refused : (left : ℕ) (a b : Text) → kept a ≡ kept b → ((left ≡ 0) → ⊥) → is_empty a ≡ true → cause_of_path left b ≡ Some EmptyPath
empty_refused left a b k n e =
    sym (same_cause left a b (same_from_kept a b k))
    ∙ (ap (λ (t : Bool). three t (is_empty a) (is_long_path a)) (ne_eqb left 0 n)
    ∙ ap (λ (t : Bool). three false t (is_long_path a)) e)

-- A path that is too long.
pub long_refused : (left : ℕ) (a b : Text) → kept a ≡ kept b → ((left ≡ 0) → ⊥) → is_empty a ≡ false → max_path < length a → cause_of_path left b ≡ Some PathTooLong
long_refused left a b k n e lt =
    sym (same_cause left a b (same_from_kept a b k))
    ∙ (ap (λ (t : Bool). three t (is_empty a) (is_long_path a)) (ne_eqb left 0 n)
    ∙ (ap (λ (t : Bool). three false t (is_long_path a)) e
    ∙ ap (λ (t : Bool). three false false t) (lt-ltb max_path (length a) lt)))

same_short : (a b : Text) → length a ≤ max_path → Same a b → a ≡ b
same_short a b le (inl e) = e
same_short a b le (inr h) = let f : ⊥ = omega (arith, le, h.0) in absurd f

-- A path that is accepted.
pub path_taken : (left : ℕ) (a b x : Text) → kept a ≡ kept b → ((left ≡ 0) → ⊥) → is_empty a ≡ false → length a ≤ max_path → x ≡ a → (cause_of_path left b ≡ None) × (Some b ≡ Some x)
path_taken left a b x k n e le f = (
  sym (same_cause left a b (same_from_kept a b k))
      ∙ (ap (λ (t : Bool). three t (is_empty a) (is_long_path a)) (ne_eqb left 0 n)
      ∙ (ap (λ (t : Bool). three false t (is_long_path a)) e
      ∙ ap (λ (t : Bool). three false false t) (le-ltb max_path (length a) le))),
  ap (λ (y : Text). Some y) (sym (f ∙ same_short a b le (same_from_kept a b k))),
)

-- The file that a statement includes.
pub taken_of : (left : ℕ) (here names : Name → Text) (path : List Piece) (k : StatementKind) (result : Result Text StatementFault) → here ≡ names → path_included k ≡ Some path
    → IsIncluded (cause_of_path left (expand here path)) (Some (expand here path)) result → IsIncluded (cause_to_load left names k) (included_by names k) result
taken_of left here names path k result is e r =
    subst (λ (n : Name → Text). IsIncluded (cause_to_load left n k) (included_by n k) result) is
    (subst (λ (x : Option Cause). IsIncluded x (included_by here k) result) (sym (causes k e))
    (subst (λ (x : Option Text). IsIncluded (cause_of_path left (expand here path)) x result) (sym (files k e)) r))
  where
    causes : (k : StatementKind) → path_included k ≡ Some path → cause_to_load left here k ≡ cause_of_path left (expand here path)
    causes (kind.Include p) e = let f : p ≡ path = cc in ap (λ (x : List Piece). cause_of_path left (expand here x)) f
    causes (kind.Subninja p) e = let f : p ≡ path = cc in ap (λ (x : List Piece). cause_of_path left (expand here x)) f
    causes (kind.Rule r) e = cc
    causes (kind.Build b) e = cc
    causes (kind.Pool p) e = cc
    causes (kind.Default targets) e = cc
    causes (kind.Binding b) e = cc

    files : (k : StatementKind) → path_included k ≡ Some path → included_by here k ≡ Some (expand here path)
    files (kind.Include p) e = let f : p ≡ path = cc in ap (λ (x : List Piece). Some (expand here x)) f
    files (kind.Subninja p) e = let f : p ≡ path = cc in ap (λ (x : List Piece). Some (expand here x)) f
    files (kind.Rule r) e = cc
    files (kind.Build b) e = cc
    files (kind.Pool p) e = cc
    files (kind.Default targets) e = cc
    files (kind.Binding b) e = cc

-- If a file may be included, the number of files that may be open isn't 0.
pub one_more : (left : ℕ) (here : Name → Text) (k : StatementKind) (path : Text) → cause_to_load left here k ≡ None → included_by here k ≡ Some path → 0 < left
one_more zero here (kind.Include p) path c f = cc
one_more zero here (kind.Subninja p) path c f = cc
one_more (suc left) here k path c f = omega arith
one_more left here (kind.Rule r) path c f = cc
one_more left here (kind.Build b) path c f = cc
one_more left here (kind.Pool p) path c f = cc
one_more left here (kind.Default targets) path c f = cc
one_more left here (kind.Binding b) path c f = cc

-- The included statements see a scope.
pub some_scope : (above : List TreeStatement) (scopes inner : List ℕ) (k : StatementKind) → 0 < length scopes → inner ≡ scopes_in above scopes k → 0 < length inner
some_scope above scopes inner k lt e = subst (λ (s : List ℕ). 0 < length s) (sym e) (seen k)
  where
    seen : (k : StatementKind) → 0 < length (scopes_in above scopes k)
    seen (kind.Subninja path) = omega arith
    seen (kind.Include path) = lt
    seen (kind.Rule r) = lt
    seen (kind.Build b) = lt
    seen (kind.Pool p) = lt
    seen (kind.Default targets) = lt
    seen (kind.Binding b) = lt

first : (g : FileContents) (m n : PathSet) (name path : Text) (scopes : List ℕ) (above : List TreeStatement) (out : Outcome) → ((p : Text) → m p → n p) → name ≡ path → scopes ≡ 0 ∷ [] → above ≡ []
    → LoadsWithin g m 63 name scopes above out → LoadsFirst g n path out
first g m n name path scopes above out mn e f h r =
    by_rules g n 63 path (0 ∷ []) [] out
    (within_wider g g m n (λ p bytes x. x) mn 63 path (0 ∷ []) [] out
    (subst (λ (x : Text). LoadsWithin g m 63 x (0 ∷ []) [] out) e
    (subst (λ (x : List ℕ). LoadsWithin g m 63 name x [] out) f
    (subst (λ (x : List TreeStatement). LoadsWithin g m 63 name scopes x out) h r))))

-- A tree that is loaded.
pub tree_loaded : (g : FileContents) (f : PathSet) (b n : ℕ) (name path : Text) (scopes : List ℕ) (above statements tree : List TreeStatement) → name ≡ path → scopes ≡ 0 ∷ [] → above ≡ [] → tree ≡ statements
    → Answers g f b n (λ missing out. LoadsWithin g missing 63 name scopes above out) (Ok statements) → Loads g f b n path (Ok tree)
tree_loaded g f b n name path scopes above statements tree e i h k r =
    (r.0, subst (λ (x : List TreeStatement). LoadsFirst g (IsMissing g f b n) path (Ok x)) (sym k) (first g never (IsMissing g f b n) name path scopes above (Ok statements) (λ p x. absurd x) e i h r.1))

-- A tree that isn't loaded.
pub tree_failed : (g : FileContents) (f : PathSet) (b n : ℕ) (name path : Text) (scopes : List ℕ) (above : List TreeStatement) (fault : ScopeFault) → name ≡ path → scopes ≡ 0 ∷ [] → above ≡ []
    → Answers g f b n (λ missing out. LoadsWithin g missing 63 name scopes above out) (Err fault) → Loads g f b n path (Err fault)
tree_failed g f b n name path scopes above LoadMemory e i h r = r
tree_failed g f b n name path scopes above (SourceMissing file) e i h r = first g (IsMissing g f b n) (IsMissing g f b n) name path scopes above (Err (SourceMissing file)) (λ p x. x) e i h r
tree_failed g f b n name path scopes above (Parse file fault) e i h r = (r.0, first g never (IsMissing g f b n) name path scopes above (Err (Parse file fault)) (λ p x. absurd x) e i h r.1)
tree_failed g f b n name path scopes above (Refused file offset cause) e i h r = (r.0, first g never (IsMissing g f b n) name path scopes above (Err (Refused file offset cause)) (λ p x. absurd x) e i h r.1)
tree_failed g f b n name path scopes above Memory e i h r = (r.0, first g never (IsMissing g f b n) name path scopes above (Err Memory) (λ p x. absurd x) e i h r.1)
