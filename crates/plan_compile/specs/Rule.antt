-- The out-of-date rule: when an edge is out of date, and what it does, by its inputs, its questions, and the
-- values that it leaves.
use Rattle.std.specs.Prelude.{ℕ, zero, suc, Bool, true, false, not, ◌||◌, ◌&&◌, Result, Ok, Err, List, [], ◌∷◌, ◌++◌, map, Option, Some, None, nat_lt, ◌==◌, if◌then◌else◌}
use Rattle.plan_verify.specs.declared.value.Cause.TheVariants.{MissingInput, StatFault, DepfileFault, DepfileMalformed, RecordFault}
use Rattle.plan_verify.specs.declared.value.Cause.TheVariants as cause
use Rattle.plan_verify.specs.Turn.{Stat, Recall, Run, Deps, Keep, Reply, StampIs, Entry, Nothing, Exit, Signal, Bytes, Kept, Meaning, earlier, later, same_text}
use Rattle.plan_compile.specs.declared.baseline.Baseline.{Baseline}
use Rattle.plan_compile.specs.declared.baseline.Baseline.TheVariants.{Outputs, Basis, OutputsAndBasis}
use Rattle.plan_compile.specs.declared.baseline.OutOfDateRule.{OutOfDateRule}
use Rattle.plan_compile.specs.declared.baseline.OutOfDateRule.TheVariants.{Stricter}
use Rattle.plan_compile.specs.InteractionTree.{Left, InteractionTree, Ask, Over, Fail}

abbrev pub Path : Type 0
Path = List ℕ

-- an input: a source file with its number and path, or an output of an edge with that edge's stamp and changed
-- flag
pub data Given : Type 0 where
  SourceFile : (file : ℕ) (path : Path) → Given
  Made : (stamp : ℕ) (changed : Bool) → Given

pub record Command : Type 0 where
  pub named : List Given
  pub order_only : List Given
  pub outputs : List Path
  pub command : List ℕ
  pub depfile : List ℕ
  pub restat : Bool
  pub generator : Bool
  pub baseline : Baseline

-- the recorded entry of an edge
pub record Recorded : Type 0 where
  pub command : List ℕ
  pub basis : ℕ
  pub paths : List Path

-- ---- questions

-- a file that must exist
abbrev pub needed : ℕ → (ℕ → InteractionTree) → Reply → InteractionTree
needed f go (StampIs zero) = Fail (MissingInput f)
needed f go (StampIs (suc n)) = go (suc n)
needed f go _ = Fail StatFault

abbrev pub stamped : (ℕ → InteractionTree) → Reply → InteractionTree
stamped go (StampIs n) = go n
stamped go _ = Fail StatFault

abbrev pub recalled : (Option Recorded → InteractionTree) → Reply → InteractionTree
recalled go (Entry command basis paths) = go (Some (record { command = command; basis = basis; paths = paths }))
recalled go Nothing = go None
recalled go _ = Fail RecordFault

abbrev pub exited : InteractionTree → Reply → InteractionTree
exited go (Exit zero) = go
exited go (Exit (suc n)) = Fail (cause.Exit (suc n))
exited go Signal = Fail cause.Signal
exited go _ = Fail cause.NotStarted

abbrev pub told_paths : (List Path → InteractionTree) → Result (List Path) (ℕ × ℕ) → InteractionTree
told_paths go (Ok paths) = go paths
told_paths go (Err fault) = Fail (DepfileMalformed fault.0 fault.1)

abbrev pub read : Meaning → (List Path → InteractionTree) → Reply → InteractionTree
read meaning go (Bytes bytes) = told_paths go (meaning bytes)
read meaning go Nothing = go []
read meaning go _ = Fail DepfileFault

abbrev pub kept : InteractionTree → Reply → InteractionTree
kept go Kept = go
kept go _ = Fail RecordFault

-- the stamps of inputs: a source file must exist, and an output of an edge isn't asked for
abbrev pub inputs : List Given → (List ℕ → InteractionTree) → InteractionTree
inputs [] go = go []
inputs (SourceFile f path ∷ others) go = Ask (Stat path) (needed f (λ t. inputs others (λ ts. go (t ∷ ts))))
inputs (Made t changed ∷ others) go = inputs others (λ ts. go (t ∷ ts))

-- the stamps of files, 0 for a missing one
abbrev pub stamps : List Path → (List ℕ → InteractionTree) → InteractionTree
stamps [] go = go []
stamps (path ∷ others) go = Ask (Stat path) (stamped (λ t. stamps others (λ ts. go (t ∷ ts))))

-- ---- the inputs that are asked for

-- whether a source file is among these inputs
abbrev pub is_among : ℕ → List Given → Bool
is_among f [] = false
is_among f (SourceFile g path ∷ others) = (f == g) || is_among f others
is_among f (Made t changed ∷ others) = is_among f others

-- the order-only inputs that are asked for: the source files that aren't also named inputs
abbrev pub asked : (named order_only : List Given) → List Given
asked named [] = []
asked named (SourceFile f path ∷ others) = if is_among f named then asked named others else SourceFile f path ∷ asked named others
asked named (Made t changed ∷ others) = asked named others

-- ---- the comparisons

-- the greatest of a stamp and these
abbrev pub greatest_from : ℕ → List ℕ → ℕ
greatest_from n [] = n
greatest_from n (t ∷ ts) = greatest_from (later n t) ts

-- the greatest of these, or 0 if there are none
abbrev pub greatest : List ℕ → ℕ
greatest ts = greatest_from 0 ts

-- the least of a stamp and these
abbrev pub least_from : ℕ → List ℕ → ℕ
least_from n [] = n
least_from n (t ∷ ts) = least_from (earlier n t) ts

-- the least of these, or 0 if there are none
abbrev pub least : List ℕ → ℕ
least [] = 0
least (t ∷ ts) = least_from t ts

-- whether one is the stamp of a missing file
abbrev pub some_missing : List ℕ → Bool
some_missing [] = false
some_missing (t ∷ ts) = (t == 0) || some_missing ts

-- whether the changed flag of one of them is set
abbrev pub some_changed : List Given → Bool
some_changed [] = false
some_changed (SourceFile f path ∷ others) = some_changed others
some_changed (Made t changed ∷ others) = changed || some_changed others

-- whether there is no entry, or one with a different command
abbrev pub is_new : List ℕ → Option Recorded → Bool
is_new command None = true
is_new command (Some entry) = not (same_text entry.command command)

-- The baseline of an edge under a rule. A restat edge has the recorded basis. By the stricter rule, an edge
-- that is neither restat nor a generator has the earlier of the basis and the oldest output. By the specified
-- rule it has the oldest output.
abbrev pub baseline_by : (restat generator : Bool) → OutOfDateRule → Baseline
baseline_by true generator rule = Basis
baseline_by false false Stricter = OutputsAndBasis
baseline_by false generator rule = Outputs

-- The stamp that the newest input must not exceed. Without an entry it is that of the oldest output.
abbrev pub baseline : Baseline → (outputs : List ℕ) → Option Recorded → ℕ
baseline Basis outputs (Some entry) = entry.basis
baseline OutputsAndBasis outputs (Some entry) = earlier entry.basis (least outputs)
baseline _ outputs _ = least outputs

-- the recorded paths
abbrev pub paths_in : Option Recorded → List Path
paths_in (Some entry) = entry.paths
paths_in None = []

-- An edge is dirty if an output is missing, a named input changed, the command is new and the edge no
-- generator, a recorded path is missing, or the newest of the named inputs and the recorded paths is later than
-- the baseline.
abbrev pub is_dirty : Command → (named old : List ℕ) → Option Recorded → (swept : List ℕ) → Bool
is_dirty c named old entry swept =
    some_missing old
    || some_changed c.named
    || (not c.generator && is_new c.command entry)
    || some_missing swept
    || nat_lt (baseline c.baseline old entry) (greatest (named ++ swept))

-- ---- a command edge

abbrev pub first : List Path → Path
first [] = []
first (path ∷ others) = path

-- an edge's name in the record
abbrev pub name : Command → Path
name c = first c.outputs

-- outputs that keep their stamps
abbrev pub unchanged : List ℕ → Left
unchanged ts = map (λ t. (t, false)) ts

-- outputs after the command: those of a restat edge are changed if their stamps are
abbrev pub changed : (restat : Bool) → (old new : List ℕ) → Left
changed restat (a ∷ old) (b ∷ new) = (b, not restat || not (a == b)) ∷ changed restat old new
changed restat _ _ = []

-- the paths of the depfile; none if the edge has no depfile
abbrev pub depfile : Meaning → List ℕ → (List Path → InteractionTree) → InteractionTree
depfile meaning [] go = go []
depfile meaning (c ∷ cs) go = Ask (Deps (c ∷ cs)) (read meaning go)

-- A dirty edge, after it got its job token: it runs its command, asks for the depfile and for its paths,
-- records an entry whose basis is the newest stamp that it read, and asks for its outputs again.
abbrev pub runs : Meaning → Command → (named old : List ℕ) → InteractionTree
runs meaning c named old =
    Ask (Run c.command c.outputs) (exited (
    depfile meaning c.depfile λ paths.
    stamps paths λ swept.
    Ask (Keep (name c) c.command (greatest (named ++ swept)) paths) (kept (
    stamps c.outputs λ new.
    Over true (changed c.restat old new)))))

-- A command edge asks for its order-only and its named source files, its outputs, its entry, and the recorded
-- paths. Then it is dirty, or it is clean and ends.
abbrev pub does : Meaning → Command → InteractionTree
does meaning c =
    inputs (asked c.named c.order_only) λ _.
    inputs c.named λ named.
    stamps c.outputs λ old.
    Ask (Recall (name c)) (recalled λ entry.
    stamps (paths_in entry) λ swept.
    if is_dirty c named old entry swept then runs meaning c named old else Over false (unchanged old))

-- ---- a phony edge

abbrev pub has_none : List Given → Bool
has_none [] = true
has_none (i ∷ is) = false

-- without inputs, each output has the stamp of its file
abbrev pub alone : List Path → InteractionTree
alone outputs = stamps outputs λ ts. Over false (map (λ t. (t, t == 0)) ts)

-- By the stricter rule, the files of a phony's outputs are asked for too. By the specified rule, a phony has the
-- baseline Outputs, and none of them is.
abbrev pub own_files : Baseline → List Path → (List ℕ → InteractionTree) → InteractionTree
own_files Outputs outputs go = go []
own_files Basis outputs go = stamps outputs go
own_files OutputsAndBasis outputs go = stamps outputs go

-- With inputs, all outputs have the flag of the named ones, and the newest stamp of the named ones and of the files
-- of the outputs that are asked for. A missing file has the stamp 0.
abbrev pub gathers : Command → InteractionTree
gathers c =
    inputs (asked c.named c.order_only) λ _.
    inputs c.named λ named.
    own_files c.baseline c.outputs λ own.
    Over false (map (λ path. (greatest (named ++ own), some_changed c.named)) c.outputs)

-- whether it has inputs is tested on the inputs as given
abbrev pub does_phony : Command → InteractionTree
does_phony c = if has_none c.named && has_none c.order_only then alone c.outputs else gathers c
