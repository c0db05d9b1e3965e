-- How a build goes. The manifest is read, with what the record adds to it, and compiled. If an edge makes it, that edge
-- is run first, and the manifest is read again each time that the edge's command ran. Then the image of the manifest
-- that was read last is run. If a build names no targets, and all edges are up to date that it needs, nothing is run.
use Rattle.std.specs.Prelude.{◌≡◌, ◌⊎◌, ◌<◌, ℕ, suc, true, false, List, [], ◌∷◌, Option, Some, None, Result, Ok, Err, ◌++◌, slice_get}
use Rattle.plan_text.specs.Path.{canonical_of}
use Rattle.plan_text.specs.declared.fault.TextFault.{TextFault}
use Rattle.plan_scope.specs.Trees.{TreeStatement}
use Rattle.plan_scope.specs.Scopes.{Text}
use Rattle.plan_scope.specs.Loading.{FileContents, PathSet, LoadsFirst}
use Rattle.plan_scope.specs.Edges.{manifest_of}
use Rattle.plan_scope.specs.Extended.{extended}
use Rattle.plan_scope.specs.declared.edge.addition.Addition.{Addition}
use Rattle.plan_scope.specs.declared.manifest.Manifest.{Manifest}
use Rattle.plan_graph.specs.Files.{producer_in}
use Rattle.plan_graph.specs.Graph.{IsGraph}
use Rattle.plan_graph.specs.declared.graph_data.Graph.{Graph}
use Rattle.plan_image.specs.declared.image.Parts.{Parts}
use Rattle.plan_compile.specs.declared.baseline.OutOfDateRule.TheVariants.{Stricter}
use Rattle.plan_machine.specs.Limits.{Limits}
use Rattle.plan_machine.specs.declared.event.Outcome.{Outcome}
use Rattle.plan_machine.specs.declared.event.Outcome.TheVariants.{Ran}
use Rattle.plan_machine.specs.State.{outcome_at}
use Rattle.plan_status.specs.Outcomes.{all_done}
use Rattle.plan_status.specs.declared.fault.PrintFault.{PrintFault}
use Rattle.plan_scan.specs.Scans.{HasNothingToDo}
use Rattle.plan_lanes.specs.Journals.{Rule}
use Rattle.plan_lanes.specs.Progress.{Opened}
use Rattle.plan_lanes.specs.declared.board.Report.{Report}
use Rattle.plan_lanes.specs.declared.fault.LaneFault.{LaneFault}
use Rattle.plan_printing.specs.declared.fault.PlanFault.{PlanFault}
use Rattle.plan_commands.specs.declared.building.Done.{Done}
use Rattle.plan_commands.specs.declared.building.Done.TheVariants as done
use Rattle.plan_commands.specs.declared.recorded_image.Compiled.{Compiled}
use Rattle.plan_commands.specs.declared.recorded_image.Compiled.TheVariants as compiled
use Rattle.plan_commands.specs.declared.recorded_image.Prepared.{Prepared}
use Rattle.plan_commands.specs.declared.recorded_image.Prepared.TheVariants as prepared
use Rattle.plan_commands.specs.declared.building.Round.{Round}
use Rattle.plan_commands.specs.declared.building.Round.TheVariants as round
use Rattle.plan_printing.specs.Faults.{no_memory}
use Rattle.plan_commands.specs.Commands.{IsRefused, LacksGraph, MayLoad}
use Rattle.plan_commands.specs.Compiling.{IsImageOf, LacksImageOf}
use Rattle.plan_commands.specs.Recorded.{AreRecorded}
use Rattle.plan_commands.specs.Images.{SinkState}
use Rattle.plan_commands.specs.NeededFiles.{HasSources, LacksSource}
use Rattle.plan_commands.specs.Showing.{Shown}
use Rattle.plan_commands.specs.Running.{EndsPrinted, LanesStop, FailsToPrint, opening_memory, printed_lane_fault, printed_print_fault}
use Rattle.plan_commands.specs.Targets.{target, targets}

-- The request of a build: the path of the manifest, the options, and the names of the targets.
pub record Asked : Type 0 where
  pub path : Text
  pub limits : Limits
  pub names : List Text

abbrev pub asked : Text → Limits → List Text → Asked
asked path limits names = record { path = path; limits = limits; names = names }

-- ---- the manifest is read

-- The set that contains no path.
abbrev pub Nowhere : PathSet
Nowhere path = ⊥

-- The tables are the image, by the stricter out-of-date rule, of a manifest with what the record adds to it. The files
-- may hold the lines of this manifest, and none of these files is missing. The rule of the world says what the record
-- may be.
pub record IsRead (gives : FileContents) (rule : Rule) (path : Text) (p : Parts) : Type 0 where
  pub lines : List TreeStatement
  pub manifest : Manifest
  pub loaded : LoadsFirst gives Nowhere path (Ok lines)
  pub means : manifest_of lines ≡ Ok manifest
  pub additions : List Addition
  pub recorded : AreRecorded rule manifest additions
  pub image : IsImageOf Stricter (extended additions manifest) p

-- What a build knows to wait for: the manifest that was read, with what the record adds to it.
abbrev pub manifest_in : {gives : FileContents} {rule : Rule} {path : Text} {p : Parts} → IsRead gives rule path p → Manifest
manifest_in read = extended read.additions read.manifest

-- ---- nothing is to do

-- the edge that makes the file at a path of a command line, if there is one
abbrev pub producer_or_none : Option ℕ → List ℕ
producer_or_none (Some maker) = maker ∷ []
producer_or_none None = []

abbrev pub producers_of : Graph → Result Text TextFault → List ℕ
producers_of g (Ok path) = producer_or_none (producer_in g.files path)
producers_of g (Err fault) = []

-- The edges that a build without named targets brings up to date: the defaults of its manifest, and the edge that makes
-- the manifest at this path.
abbrev pub all_targets : Graph → Text → List ℕ
all_targets g path = g.defaults ++ producers_of g (canonical_of path)

-- The record adds nothing to the manifest at this path, and each edge that these edges need is up to date.
pub record NeedsNothing (rule : Rule) (m : Manifest) (path : Text) : Type 0 where
  pub recorded : AreRecorded rule m []
  pub graph : Graph
  pub is_graph : IsGraph m graph
  pub clean : HasNothingToDo rule m graph (all_targets graph path)

abbrev pub unless_named : Text → List Text → Option Text
unless_named path [] = Some path
unless_named path (name ∷ names) = None

-- the path of the manifest if the request names no targets, otherwise none
abbrev pub path_of_all : Asked → Option Text
path_of_all a = unless_named a.path a.names

-- No targets are named, and nothing is to do for the manifest at this path.
abbrev pub AllNeedNothing : Rule → Manifest → Option Text → Type 0
AllNeedNothing rule m (Some path) = NeedsNothing rule m path
AllNeedNothing rule m None = ⊥

-- The request names no targets, and nothing is to do for a manifest. The files may hold the lines of this manifest, and
-- none of these files is missing.
pub record FindsNothingToDo (gives : FileContents) (rule : Rule) (a : Asked) : Type 0 where
  pub lines : List TreeStatement
  pub manifest : Manifest
  pub loaded : LoadsFirst gives Nowhere a.path (Ok lines)
  pub means : manifest_of lines ≡ Ok manifest
  pub needs : AllNeedNothing rule manifest (path_of_all a)

-- ---- the manifest is remade

-- The request of a run: an image, the options, and the edges to run.
abbrev pub opened : Parts → Limits → List ℕ → Opened
opened p limits edges = record { parts = p; limits = limits; targets = edges }

abbrev pub ok_of : Result ℕ PlanFault → Option ℕ
ok_of (Ok edge) = Some edge
ok_of (Err fault) = None

-- The edge that makes the manifest, if there is one.
abbrev pub maker_of : Parts → Text → Option ℕ
maker_of p path = ok_of (target p path)

-- The outcome of an edge, if it has ended.
abbrev pub outcome_in : Report → ℕ → Option Outcome
outcome_in r e = outcome_at (slice_get r.state.run_state.now.edges e)

-- The numbers of the fault that a source is missing: one that the targets need, and one that the manifest needs.
abbrev pub target_source : ℕ
target_source = 135

abbrev pub maker_source : ℕ
maker_source = 136

-- A round: the manifest was read, no source was missing that its maker needs, and the maker was run as the only target.
-- All edges that the maker needs succeeded, and the maker's command ran.
pub record Remakes (gives : FileContents) (shown : Shown) (rule : Rule) (a : Asked) (old new : SinkState) : Type 0 where
  pub parts : Parts
  pub read : IsRead gives rule a.path parts
  pub maker : ℕ
  pub makes : maker_of parts a.path ≡ Some maker
  pub sources : HasSources rule parts (maker ∷ [])
  pub report : Report
  pub run : EndsPrinted shown rule (opened parts a.limits (maker ∷ [])) report old new
  pub well : all_done parts report.state.run_state.now ≡ true
  pub ran : outcome_in report maker ≡ Some Ran

-- The given number of rounds, one after another.
pub data Rounds (gives : FileContents) (shown : Shown) (rule : Rule) (a : Asked) : ℕ → SinkState → SinkState → Type 0 where
  no_round : {s : SinkState} → Rounds gives shown rule a 0 s s
  one_more : {n : ℕ} {s t u : SinkState} → Rounds gives shown rule a n s t → Remakes gives shown rule a t u → Rounds gives shown rule a (suc n) s u

-- No edge makes the manifest that was read.
pub record HasNoMaker (a : Asked) (p : Parts) (old new : SinkState) : Type 0 where
  pub none : maker_of p a.path ≡ None
  pub same : new ≡ old

-- No source was missing that the maker needs, and it was run as the only target. All edges that it needs succeeded, and
-- its command did not run.
pub record MakerIsClean (shown : Shown) (rule : Rule) (a : Asked) (p : Parts) (old new : SinkState) : Type 0 where
  pub maker : ℕ
  pub makes : maker_of p a.path ≡ Some maker
  pub sources : HasSources rule p (maker ∷ [])
  pub report : Report
  pub run : EndsPrinted shown rule (opened p a.limits (maker ∷ [])) report old new
  pub well : all_done p report.state.run_state.now ≡ true
  pub clean : (outcome_in report maker ≡ Some Ran) → ⊥

-- The manifest that was read is up to date.
abbrev pub IsUpToDate : Shown → Rule → Asked → Parts → (old new : SinkState) → Type 0
IsUpToDate shown rule a p old new = HasNoMaker a p old new ⊎ MakerIsClean shown rule a p old new

-- No source was missing that the maker needs, and it was run as the only target. An edge that the maker needs, or the
-- maker, did not succeed.
pub record MakerFails (gives : FileContents) (shown : Shown) (rule : Rule) (a : Asked) (old new : SinkState) : Type 0 where
  pub parts : Parts
  pub read : IsRead gives rule a.path parts
  pub maker : ℕ
  pub makes : maker_of parts a.path ≡ Some maker
  pub sources : HasSources rule parts (maker ∷ [])
  pub report : Report
  pub run : EndsPrinted shown rule (opened parts a.limits (maker ∷ [])) report old new
  pub ill : all_done parts report.state.run_state.now ≡ false

-- ---- the build

-- The largest number of rounds.
abbrev pub most_rounds : ℕ
most_rounds = 100

-- At least one edge succeeded after its command ran.
abbrev pub HasRun : Report → Type 0
HasRun r = (e : ℕ) × (outcome_in r e ≡ Some Ran)

abbrev pub HasRunNothing : Report → Type 0
HasRunNothing r = (e : ℕ) → outcome_in r e ≡ Some Ran → ⊥

-- How a build ends, from the report of its last run. `Failed`: a wanted edge did not succeed. `Built`: all succeeded,
-- and a command ran. `UpToDate`: all succeeded, and no command ran.
abbrev pub EndsAs : Parts → Report → Done → Type 0
EndsAs p r done.Failed = all_done p r.state.run_state.now ≡ false
EndsAs p r done.Built = (all_done p r.state.run_state.now ≡ true) × HasRun r
EndsAs p r done.UpToDate = (all_done p r.state.run_state.now ≡ true) × HasRunNothing r
EndsAs p r done.ManifestFails = ⊥
EndsAs p r done.NeverSettles = ⊥

-- The exit status of a build.
abbrev pub exit_status : Done → ℕ
exit_status done.Built = 0
exit_status done.UpToDate = 0
exit_status done.Failed = 1
exit_status done.ManifestFails = 1
exit_status done.NeverSettles = 1

-- After fewer than 100 rounds, the manifest that was read last is up to date. No source was missing that the edges of
-- the named targets need, and its image was run for these edges. The run has ended, and it was shown after the rounds,
-- in the same way. Its report determines how the build ends.
pub record BuildsTargets (gives : FileContents) (shown : Shown) (rule : Rule) (a : Asked) (old new : SinkState) (d : Done) : Type 0 where
  pub rounds : ℕ
  pub few : rounds < most_rounds
  pub middle : SinkState
  pub remade : Rounds gives shown rule a rounds old middle
  pub parts : Parts
  pub read : IsRead gives rule a.path parts
  pub later : SinkState
  pub settled : IsUpToDate shown rule a parts middle later
  pub edges : List ℕ
  pub targets : targets parts a.names ≡ Ok edges
  pub sources : HasSources rule parts edges
  pub report : Report
  pub run : EndsPrinted shown rule (opened parts a.limits edges) report later new
  pub ends : EndsAs parts report d

-- After fewer than 100 rounds, nothing is to do. Nothing more was printed.
pub record EndsWithoutRun (gives : FileContents) (shown : Shown) (rule : Rule) (a : Asked) (old new : SinkState) : Type 0 where
  pub rounds : ℕ
  pub few : rounds < most_rounds
  pub remade : Rounds gives shown rule a rounds old new
  pub finds : FindsNothingToDo gives rule a

-- After fewer than 100 rounds, the manifest's maker failed.
pub record FailsToRemake (gives : FileContents) (shown : Shown) (rule : Rule) (a : Asked) (old new : SinkState) : Type 0 where
  pub rounds : ℕ
  pub few : rounds < most_rounds
  pub middle : SinkState
  pub remade : Rounds gives shown rule a rounds old middle
  pub fails : MakerFails gives shown rule a middle new

-- How a build goes that ends in this way.
abbrev pub Builds : FileContents → Shown → Rule → Asked → (old new : SinkState) → Done → Type 0
Builds gives shown rule a old new done.Built = BuildsTargets gives shown rule a old new done.Built
Builds gives shown rule a old new done.UpToDate = BuildsTargets gives shown rule a old new done.UpToDate ⊎ EndsWithoutRun gives shown rule a old new
Builds gives shown rule a old new done.Failed = BuildsTargets gives shown rule a old new done.Failed
Builds gives shown rule a old new done.ManifestFails = FailsToRemake gives shown rule a old new
Builds gives shown rule a old new done.NeverSettles = Rounds gives shown rule a most_rounds old new

-- ---- why a build stops

-- The manifest that may be loaded from the path, with what the record adds to it, has no graph or no image for this
-- cause.
pub record RefusesRecorded (rule : Rule) (loads : MayLoad) (path : Text) (fault : PlanFault) : Type 0 where
  pub lines : List TreeStatement
  pub manifest : Manifest
  pub loaded : loads path (Ok lines)
  pub means : manifest_of lines ≡ Ok manifest
  pub additions : List Addition
  pub recorded : AreRecorded rule manifest additions
  pub refused : LacksGraph (extended additions manifest) fault ⊎ LacksImageOf Stricter (extended additions manifest) fault

-- The manifest can't be read, or has no graph, or memory ran out. Or there is no image with what the record adds.
abbrev pub IsNotRead : FileContents → PathSet → Rule → Text → PlanFault → Type 0
IsNotRead gives missing rule path fault = IsRefused (LoadsFirst gives missing) path fault ⊎ RefusesRecorded rule (LoadsFirst gives missing) path fault

-- Memory ran out before a run began.
abbrev pub LacksMemory : PlanFault → Type 0
LacksMemory fault = (fault ≡ no_memory) ⊎ (fault ≡ opening_memory)

-- A run that began did not end, or it was not shown to its end.
abbrev pub RunStops : Shown → Rule → Opened → (old new : SinkState) → PlanFault → Type 0
RunStops shown rule o old new fault = (r : Report) × (LanesStop shown rule o r old new fault ⊎ FailsToPrint shown rule o r old new fault)

-- Either no run was opened, and nothing was printed, or a run stopped.
abbrev pub IsNotRun : Shown → Rule → Opened → (old new : SinkState) → PlanFault → Type 0
IsNotRun shown rule o old new fault = ((new ≡ old) × (fault ≡ opening_memory)) ⊎ RunStops shown rule o old new fault

-- No run was opened, since a source is missing that a wanted edge needs, and nothing was printed. Or the run stops.
abbrev pub RunFails : ℕ → Shown → Rule → Opened → (old new : SinkState) → PlanFault → Type 0
RunFails number shown rule o old new fault = ((new ≡ old) × LacksSource rule o.parts o.targets number fault) ⊎ RunStops shown rule o old new fault

-- The run of the manifest's maker fails.
pub record MakerStops (gives : FileContents) (shown : Shown) (rule : Rule) (a : Asked) (old new : SinkState) (fault : PlanFault) : Type 0 where
  pub parts : Parts
  pub read : IsRead gives rule a.path parts
  pub maker : ℕ
  pub makes : maker_of parts a.path ≡ Some maker
  pub stops : RunFails maker_source shown rule (opened parts a.limits (maker ∷ [])) old new fault

-- The reasons why a round stops. Either the manifest can't be read or memory ran out, and nothing of the round was
-- printed. Or the run of the maker fails.
abbrev pub RoundStops : FileContents → PathSet → Shown → Rule → Asked → (old new : SinkState) → PlanFault → Type 0
RoundStops gives missing shown rule a old new fault =
    ((new ≡ old) × (IsNotRead gives missing rule a.path fault ⊎ LacksMemory fault)) ⊎ MakerStops gives shown rule a old new fault

-- The reasons why the targets of an image aren't built. Either no edge makes a target (the first one is named) or
-- memory ran out, and nothing was printed. Or the run for the edges of the targets fails.
abbrev pub TargetsStop : Shown → Rule → Asked → Parts → (old new : SinkState) → PlanFault → Type 0
TargetsStop shown rule a p old new fault =
    ((new ≡ old) × ((targets p a.names ≡ Err fault) ⊎ LacksMemory fault))
    ⊎ ((edges : List ℕ) × (targets p a.names ≡ Ok edges) × RunFails target_source shown rule (opened p a.limits edges) old new fault)

-- The manifest that was read last is up to date, and its targets aren't built.
pub record LastRunStops (gives : FileContents) (shown : Shown) (rule : Rule) (a : Asked) (old new : SinkState) (fault : PlanFault) : Type 0 where
  pub parts : Parts
  pub read : IsRead gives rule a.path parts
  pub later : SinkState
  pub settled : IsUpToDate shown rule a parts old later
  pub stops : TargetsStop shown rule a parts later new fault

-- The reasons why a build stops: after fewer than 100 rounds, the next round stops, or the run for the targets stops.
pub record Stops (gives : FileContents) (missing : PathSet) (shown : Shown) (rule : Rule) (a : Asked) (old new : SinkState) (fault : PlanFault) : Type 0 where
  pub rounds : ℕ
  pub few : rounds < most_rounds
  pub middle : SinkState
  pub remade : Rounds gives shown rule a rounds old middle
  pub stops : RoundStops gives missing shown rule a middle new fault ⊎ LastRunStops gives shown rule a middle new fault

-- ---- parts of a build

-- Either no run was opened, since memory ran out, and nothing was printed, or the run fails.
abbrev pub IsNotTried : ℕ → Shown → Rule → Opened → (old new : SinkState) → PlanFault → Type 0
IsNotTried number shown rule o old new fault = ((new ≡ old) × LacksMemory fault) ⊎ RunFails number shown rule o old new fault

-- The tables are the image of a manifest with what the record adds to it.
abbrev pub IsImageRecorded : Rule → Manifest → Parts → Type 0
IsImageRecorded rule m p = (additions : List Addition) × AreRecorded rule m additions × IsImageOf Stricter (extended additions m) p

-- What a manifest compiles to, given the record. If there is a path, it is found out whether nothing is to do.
abbrev pub IsCompiled : Rule → Manifest → (all : Option Text) → Compiled → Type 0
IsCompiled rule m all (compiled.Image p) = AreRecorded rule m [] × IsImageOf Stricter m p
IsCompiled rule m all compiled.NothingToDo = AllNeedNothing rule m all
IsCompiled rule m all (compiled.Lacks additions) = AreRecorded rule m additions.items

-- What a manifest becomes: its image with what the record adds, or nothing is to do.
abbrev pub IsPrepared : Rule → Manifest → (all : Option Text) → Prepared → Type 0
IsPrepared rule m all (prepared.Image p) = IsImageRecorded rule m p
IsPrepared rule m all prepared.NothingToDo = AllNeedNothing rule m all

-- The same, of the manifest that was read.
abbrev pub IsReadAs : FileContents → Rule → Asked → Prepared → Type 0
IsReadAs gives rule a (prepared.Image p) = IsRead gives rule a.path p
IsReadAs gives rule a prepared.NothingToDo = FindsNothingToDo gives rule a

-- A manifest has no graph, or no image with what the record adds to it.
abbrev pub LacksRecorded : Rule → Manifest → PlanFault → Type 0
LacksRecorded rule m fault =
    LacksGraph m fault
    ⊎ ((additions : List Addition) × AreRecorded rule m additions × (LacksGraph (extended additions m) fault ⊎ LacksImageOf Stricter (extended additions m) fault))

-- The reasons why there is no report of a run that has ended and was shown to its end.
abbrev pub IsLost : Result Report LaneFault → Option PrintFault → PlanFault → Type 0
IsLost (Ok report) (Some stop) fault = (fault ≡ printed_print_fault stop) ⊎ (fault ≡ no_memory)
IsLost (Ok report) None fault = ⊥
IsLost (Err stopped) stop fault = fault ≡ printed_lane_fault stopped

-- How a round ends, from the report of the maker's run.
abbrev pub IsRoundOf : Parts → ℕ → Report → Round → Type 0
IsRoundOf p maker r (round.UpToDate q) = (q ≡ p) × (all_done p r.state.run_state.now ≡ true) × ((outcome_in r maker ≡ Some Ran) → ⊥)
IsRoundOf p maker r round.Remade = (all_done p r.state.run_state.now ≡ true) × (outcome_in r maker ≡ Some Ran)
IsRoundOf p maker r round.Failed = all_done p r.state.run_state.now ≡ false
IsRoundOf p maker r round.NothingToDo = ⊥

-- How a round goes that ends in this way.
abbrev pub EndsRound : FileContents → Shown → Rule → Asked → (old new : SinkState) → Round → Type 0
EndsRound gives shown rule a old new (round.UpToDate p) = IsRead gives rule a.path p × IsUpToDate shown rule a p old new
EndsRound gives shown rule a old new round.NothingToDo = FindsNothingToDo gives rule a × (new ≡ old)
EndsRound gives shown rule a old new round.Remade = Remakes gives shown rule a old new
EndsRound gives shown rule a old new round.Failed = MakerFails gives shown rule a old new

-- No source was missing that the edges of the targets need. An image was run for these edges, and the build ends in this
-- way.
pub record RunsTargets (shown : Shown) (rule : Rule) (a : Asked) (p : Parts) (old new : SinkState) (d : Done) : Type 0 where
  pub edges : List ℕ
  pub targets : targets p a.names ≡ Ok edges
  pub sources : HasSources rule p edges
  pub report : Report
  pub run : EndsPrinted shown rule (opened p a.limits edges) report old new
  pub ends : EndsAs p report d
