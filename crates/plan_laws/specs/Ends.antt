-- The conversation of an edge that succeeded: all its questions, each with its reply.
use Rattle.std.specs.Prelude.{◌≡◌, ℕ, Bool, true, false, Ok, List, [], ◌∷◌, ◌++◌, length}
use Rattle.plan_verify.specs.Turn.{Meaning, Run, Deps, Keep, Reply as Answer, Nothing, Exit, Bytes, Kept}
use Rattle.plan_compile.specs.InteractionTree.{Left, Over, Follows}
use Rattle.plan_compile.specs.Rule.{Path, Command, greatest, name, unchanged, changed}
use Rattle.plan_compile.specs.Told.{edge_does}
use Rattle.plan_reasons.specs.Observing.{Exchange, file_exchanges, Observations, Observes, is_dirty_by}

-- ---- how an edge succeeded

-- The edge was clean by the rule: it asked nothing else, and its outputs keep their stamps.
pub record WasClean (c : Command) (conversation : List Exchange) (left : Left) : Type 0 where
  pub observations : Observations
  pub observes : Observes c observations conversation
  pub clean : is_dirty_by c observations ≡ false
  pub keeps : left ≡ unchanged observations.outputs

-- the paths in the reply to the question for a depfile
abbrev pub GivesPaths : Meaning → List Path → Answer → Type 0
GivesPaths meaning paths (Bytes bytes) = meaning bytes ≡ Ok paths
GivesPaths meaning paths Nothing = paths ≡ []
GivesPaths meaning paths _ = ⊥

-- The depfile was read, and gave these paths. An edge without a depfile reads none, and has no paths.
abbrev pub ReadsDepfile : Meaning → (depfile : List ℕ) → List Path → List Exchange → Type 0
ReadsDepfile meaning [] paths conversation = (paths ≡ []) × (conversation ≡ [])
ReadsDepfile meaning (c ∷ cs) paths conversation = (r : Answer) × (conversation ≡ (Deps (c ∷ cs), r) ∷ []) × GivesPaths meaning paths r

-- The edge was dirty by the rule. Then its own command ran to exit status 0, its depfile was read, its entry was kept,
-- and its outputs have the stamps that they had after that.
pub record CommandSucceeded (meaning : Meaning) (c : Command) (conversation : List Exchange) (left : Left) : Type 0 where
  pub observations : Observations
  pub before : List Exchange
  pub observes : Observes c observations before
  pub dirty : is_dirty_by c observations ≡ true
  pub paths : List Path
  pub reading : List Exchange
  pub reads : ReadsDepfile meaning c.depfile paths reading
  pub path_stamps : List ℕ
  pub all_paths : length path_stamps ≡ length paths
  pub new : List ℕ
  pub all_outputs : length new ≡ length c.outputs
  pub is : conversation ≡ before ++ ((Run c.command c.outputs, Exit 0) ∷ (reading ++ (file_exchanges paths path_stamps ++ ((Keep (name c) c.command (greatest (observations.named ++ path_stamps)) paths, Kept) ∷ file_exchanges c.outputs new))))
  pub changes : left ≡ changed c.restat observations.outputs new

-- no question asks to run a command
abbrev pub RunsNothing : List Exchange → Type 0
RunsNothing [] = Unit {0}
RunsNothing ((Run command outputs, r) ∷ conversation) = ⊥
RunsNothing (x ∷ conversation) = RunsNothing conversation

-- A phony edge runs nothing. An edge with a command was clean, or its command succeeded.
abbrev pub Succeeds : (phony : Bool) → Meaning → Command → (ran : Bool) → List Exchange → Left → Type 0
Succeeds true meaning c ran conversation left = (ran ≡ false) × RunsNothing conversation
Succeeds false meaning c false conversation left = WasClean c conversation left
Succeeds false meaning c true conversation left = CommandSucceeded meaning c conversation left

-- Each conversation that follows the rule of an edge to its end has one of these forms.
abbrev pub EndsArePlain : Type 0
EndsArePlain =
    (phony : Bool) (meaning : Meaning) (c : Command) (conversation : List Exchange) (ran : Bool) (left : Left)
    → Follows (edge_does phony meaning c) conversation (Over ran left) → Succeeds phony meaning c ran conversation left

-- ---- how often a command runs

-- the questions to run a command, with their replies
abbrev pub commands_in : List Exchange → List Exchange
commands_in [] = []
commands_in ((Run command outputs, r) ∷ conversation) = (Run command outputs, r) ∷ commands_in conversation
commands_in (x ∷ conversation) = commands_in conversation

-- an edge that ran its command asked for it, and the reply was exit status 0
abbrev pub runs_of : (ran : Bool) → Command → List Exchange
runs_of true c = (Run c.command c.outputs, Exit 0) ∷ []
runs_of false c = []

-- An edge that succeeded asked for no command, or asked exactly once for its own, with the reply exit status 0.
abbrev pub CommandsRunOnce : Type 0
CommandsRunOnce =
    (phony : Bool) (meaning : Meaning) (c : Command) (conversation : List Exchange) (ran : Bool) (left : Left)
    → Succeeds phony meaning c ran conversation left → commands_in conversation ≡ runs_of ran c
