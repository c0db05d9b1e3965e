-- The statements of a loaded tree are whole, because the statements of each of its files are. Used for src/laws.rt,
-- `trees_are_whole`.
use Rattle.std.proofs.Common.{ℕ, suc, List, [], ◌∷◌, ◌++◌, Ok, Err}
use Rattle.std.specs.List.{All, AllByRecursion}
use Rattle.std.proofs.lemmas.List.Elements.{All-nil, All-cons, All-append}
use Rattle.plan_parse.specs.Kinds.{StatementKind}
use Rattle.plan_parse.specs.Kinds as kind
use Rattle.plan_parse.specs.Laws.{IsWhole, IsWholeKind, StatementsAreWhole}
use Rattle.plan_scope.specs.Trees.{TreeStatement}
use Rattle.plan_scope.specs.Scopes.{Text}
use Rattle.plan_scope.specs.Edges.{builds_in, builds_of}
use Rattle.plan_scope.specs.Loading.{FileContents, Outcome, PathSet, LoadsFirst, Job, whole_file, rest_of_file, MayLoad, is_missing, has_fault, is_read, ends, is_refused, is_added, includes_file, includes_fault, placed, scopes_in}
use Rattle.plan_scope.specs.Sound.{MakesSome}

-- Each statement is whole.
abbrev AreWhole : List TreeStatement → Type 0
AreWhole statements = AllByRecursion (λ l. IsWholeKind l.kind) statements

-- The statements of an answer are whole.
abbrev IsAnsweredWhole : Outcome → Type 0
IsAnsweredWhole (Ok statements) = AreWhole statements
IsAnsweredWhole (Err fault) = Unit {0}

-- The rest of a file's statements are whole.
abbrev JobIsWhole : Job → Type 0
JobIsWhole (whole_file path scopes) = Unit {0}
JobIsWhole (rest_of_file path scopes statements) = AllByRecursion IsWhole statements

one_more : (above : List TreeStatement) (l : TreeStatement) → AreWhole above → IsWholeKind l.kind → AreWhole (above ++ l ∷ [])
one_more [] l a w = (w, tt {0})
one_more (x ∷ above) l a w = (a.0, one_more above l a.1 w)

-- An answer after whole statements has whole statements.
rules_whole : StatementsAreWhole → (g : FileContents) (m : PathSet) (left : ℕ) (job : Job) (above : List TreeStatement) (out : Outcome) → MayLoad g m left job above out → AreWhole above → JobIsWhole job → IsAnsweredWhole out
rules_whole s g m left job above out (is_missing n path scopes up x) a w = tt {0}
rules_whole s g m left job above out (has_fault n path scopes up bytes fault b e) a w = tt {0}
rules_whole s g m left job above out (is_read n path scopes up bytes statements o b e r) a w = rules_whole s g m n (rest_of_file path scopes statements) up o r a (s bytes statements e)
rules_whole s g m left job above out (ends n path scopes up) a w = a
rules_whole s g m left job above out (is_refused n path scopes up l more cause e) a w = tt {0}
rules_whole s g m left job above out (is_added n path scopes up l more o e f r) a w =
    rules_whole s g m n (rest_of_file path scopes more) (up ++ placed path scopes l ∷ []) o r (one_more up (placed path scopes l) a w.0) w.1
rules_whole s g m left job above out (includes_file n path scopes up l more inner so_far o e f r q) a w =
    rules_whole s g m (suc n) (rest_of_file path scopes more) so_far o q (rules_whole s g m n (whole_file inner (scopes_in up scopes l.kind)) up (Ok so_far) r a (tt {0})) w.1
rules_whole s g m left job above out (includes_fault n path scopes up l more inner fault e f r) a w = tt {0}

kind_makes : (k : StatementKind) → IsWholeKind k → All MakesSome (builds_in k)
kind_makes (kind.Build b) w = All-cons MakesSome b [] w (All-nil MakesSome)
kind_makes (kind.Rule r) w = All-nil MakesSome
kind_makes (kind.Pool p) w = All-nil MakesSome
kind_makes (kind.Default targets) w = All-nil MakesSome
kind_makes (kind.Include path) w = All-nil MakesSome
kind_makes (kind.Subninja path) w = All-nil MakesSome
kind_makes (kind.Binding b) w = All-nil MakesSome

statements_make : (statements : List TreeStatement) → AreWhole statements → All MakesSome (builds_of statements)
statements_make [] w = All-nil MakesSome
statements_make (l ∷ more) w = All-append MakesSome (builds_in l.kind) (builds_of more) (kind_makes l.kind w.0) (statements_make more w.1)

-- Each build line of a loaded tree has an output.
pub loaded_makes : StatementsAreWhole → (g : FileContents) (m : PathSet) (path : Text) (statements : List TreeStatement) → LoadsFirst g m path (Ok statements) → All MakesSome (builds_of statements)
loaded_makes s g m path statements r = statements_make statements (rules_whole s g m 63 (whole_file path (0 ∷ [])) [] (Ok statements) r (tt {0}) (tt {0}))
