-- Lemmas about the results of builds. Serves src/building.rt.
use Rattle.std.proofs.Common.{◌≡◌, ◌⊎◌, ◌∙◌, ℕ, suc, ◌+◌, ◌<◌, ◌≤◌, true, false, List, [], ◌∷◌, Option, Some, None, Result, Ok, Err, IfOk, IfErr, IfSome, IfNone, OnOk, inl, inr, refl, sym, ap, subst, arith, length, get_or}
use Rattle.std.specs.Prelude.{slice_get}
use Rattle.std.proofs.lemmas.Bool.{cases_order}
use Rattle.std.proofs.lemmas.Option.{slice_get_cases}
use Rattle.plan_scope.specs.Trees.{TreeStatement}
use Rattle.plan_scope.specs.Scopes.{Text}
use Rattle.plan_scope.specs.Sources.{SameFiles}
use Rattle.plan_scope.specs.Loading.{FileContents, PathSet, Outcome, Job, MayLoad, is_missing, has_fault, is_read, ends, is_refused, is_added, includes_file, includes_fault, LoadsFirst, IsMissing, more_files}
use Rattle.plan_scope.specs.declared.manifest.Manifest.{Manifest}
use Rattle.plan_image.specs.declared.image.Parts.{Parts}
use Rattle.plan_machine.specs.State.{Status, has_ended, outcome_at}
use Rattle.plan_machine.specs.Wanted.{any_outside}
use Rattle.plan_machine.specs.declared.event.Outcome.TheVariants.{Ran}
use Rattle.plan_machine.specs.declared.run.refused.Refused.TheVariants as refused
use Rattle.plan_lanes.specs.Faults.{FaultReports}
use Rattle.plan_lanes.specs.Journals.{Rule}
use Rattle.plan_lanes.specs.Progress.{Opened}
use Rattle.plan_lanes.specs.Reports.{IsRunOf}
use Rattle.plan_lanes.specs.declared.board.Report.{Report}
use Rattle.plan_lanes.specs.declared.fault.LaneFault.{LaneFault}
use Rattle.plan_lanes.specs.declared.fault.LaneFault.TheVariants as lanes
use Rattle.plan_status.specs.declared.fault.PrintFault.{PrintFault}
use Rattle.plan_printing.specs.Faults.{no_memory}
use Rattle.plan_printing.specs.declared.fault.PlanFault.{PlanFault}
use Rattle.plan_commands.specs.declared.building.Round.{Round}
use Rattle.plan_commands.specs.declared.building.Round.TheVariants as round
use Rattle.plan_commands.specs.declared.recorded_image.Prepared.{Prepared}
use Rattle.plan_commands.specs.declared.recorded_image.Prepared.TheVariants as prepared
use Rattle.plan_commands.specs.declared.building.Done.{Done}
use Rattle.plan_commands.specs.declared.building.Done.TheVariants as done
use Rattle.plan_commands.specs.Commands.{IsMeant, IsRefused, MayLoad as MayLoads, loading_by}
use Rattle.plan_commands.specs.Images.{SinkState}
use Rattle.plan_commands.specs.NeededFiles.{HasSources, LacksSource}
use Rattle.plan_commands.specs.Showing.{IsShown, Shown}
use Rattle.plan_commands.specs.Running.{EndsPrinted, report_in}
use Rattle.plan_commands.specs.Targets.{target, targets}
use Rattle.plan_commands.specs.Building.{Asked, FindsNothingToDo, IsPrepared, IsRead, IsReadAs, Nowhere, path_of_all, opened, maker_of, ok_of, outcome_in, Rounds, no_round, one_more, IsUpToDate, FailsToRemake, BuildsTargets, Builds, EndsAs, most_rounds, IsNotRead, IsImageRecorded, LacksRecorded, RefusesRecorded, LacksMemory, RunStops, RunFails, IsNotRun, IsNotTried, maker_source, target_source, RoundStops, TargetsStop, Stops, IsLost, IsRoundOf, EndsRound, HasRunNothing, RunsTargets}
use Rattle.plan_commands.proofs.TargetLemmas.{all_inside}

-- ---- the manifest is read

module _ (g h : FileContents) (m n : PathSet) (gh : (p : Text) (bytes : Option (List ℕ)) → g p bytes → h p bytes) (mn : (p : Text) → m p → n p) where
  -- A possible result of loading stays possible if files may hold more, and more files may be missing.
  loads_wider : (left : ℕ) (job : Job) (above : List TreeStatement) (out : Outcome) → MayLoad g m left job above out → MayLoad h n left job above out
  loads_wider left job above out (is_missing l path scopes a miss) = is_missing l path scopes a (mn path miss)
  loads_wider left job above out (has_fault l path scopes a bytes fault given faulty) = has_fault l path scopes a bytes fault (gh path (Some bytes) given) faulty
  loads_wider left job above out (is_read l path scopes a bytes statements o given said rest) = is_read l path scopes a bytes statements o (gh path (Some bytes) given) said (loads_wider l _ a o rest)
  loads_wider left job above out (ends l path scopes a) = ends l path scopes a
  loads_wider left job above out (is_refused l path scopes a s more cause why) = is_refused l path scopes a s more cause why
  loads_wider left job above out (is_added l path scopes a s more o fine plain rest) = is_added l path scopes a s more o fine plain (loads_wider l _ _ o rest)
  loads_wider left job above out (includes_file l path scopes a s more inner within o fine names inside rest) =
      includes_file l path scopes a s more inner within o fine names (loads_wider l _ a (Ok within) inside) (loads_wider (suc l) _ within o rest)
  loads_wider left job above out (includes_fault l path scopes a s more inner fault fine names inside) =
      includes_fault l path scopes a s more inner fault fine names (loads_wider l _ a (Err fault) inside)

  -- A possible refusal stays possible too.
  refused_wider : (path : Text) (fault : PlanFault) → IsRefused (LoadsFirst g m) path fault → IsRefused (LoadsFirst h n) path fault
  refused_wider path fault (inl r) = inl (record { lines = r.lines; cause = r.cause; loaded = loads_wider more_files _ [] _ r.loaded; means = r.means; says = r.says })
  refused_wider path fault (inr (inl r)) = inr (inl (record { cause = r.cause; loaded = loads_wider more_files _ [] _ r.loaded; says = r.says }))
  refused_wider path fault (inr (inr (inl r))) =
      inr (inr (inl (record { lines = r.lines; manifest = r.manifest; cause = r.cause; loaded = loads_wider more_files _ [] _ r.loaded; means = r.means; refused = r.refused; says = r.says })))
  refused_wider path fault (inr (inr (inr r))) = inr (inr (inr r))

  not_read_wider : (rule : Rule) (path : Text) (fault : PlanFault) → IsNotRead g m rule path fault → IsNotRead h n rule path fault
  not_read_wider rule path fault (inl r) = inl (refused_wider path fault r)
  not_read_wider rule path fault (inr r) =
      inr (record { lines = r.lines; manifest = r.manifest; loaded = loads_wider more_files _ [] _ r.loaded; means = r.means; additions = r.additions; recorded = r.recorded; refused = r.refused })

-- All lines are loaded only if no file is missing.
loads_there : (g : FileContents) (m : PathSet) (left : ℕ) (job : Job) (above : List TreeStatement) (out : Outcome) (lines : List TreeStatement) → out ≡ Ok lines → MayLoad g m left job above out
    → MayLoad g Nowhere left job above out
loads_there g m left job above out lines is (is_missing l path scopes a miss) = absurd cc
loads_there g m left job above out lines is (has_fault l path scopes a bytes fault given faulty) = absurd cc
loads_there g m left job above out lines is (is_read l path scopes a bytes statements o given said rest) = is_read l path scopes a bytes statements o given said (loads_there g m l _ a o lines is rest)
loads_there g m left job above out lines is (ends l path scopes a) = ends l path scopes a
loads_there g m left job above out lines is (is_refused l path scopes a s more cause why) = absurd cc
loads_there g m left job above out lines is (is_added l path scopes a s more o fine plain rest) = is_added l path scopes a s more o fine plain (loads_there g m l _ _ o lines is rest)
loads_there g m left job above out lines is (includes_file l path scopes a s more inner within o fine names inside rest) =
    includes_file l path scopes a s more inner within o fine names (loads_there g m l _ a (Ok within) within refl inside) (loads_there g m (suc l) _ within o lines is rest)
loads_there g m left job above out lines is (includes_fault l path scopes a s more inner fault fine names inside) = absurd cc

-- The image of a manifest that may be loaded is read.
prepared_as : (g : FileContents) (f : PathSet) (b c : ℕ) (rule : Rule) (a : Asked) (manifest : Manifest) (x : Prepared) → IsMeant (loading_by g f b c) a.path manifest → IsPrepared rule manifest (path_of_all a) x → IsReadAs g rule a x
prepared_as g f b c rule a manifest (prepared.Image p) m image =
    record {
      lines = m.0;
      manifest = manifest;
      loaded = loads_there g (IsMissing g f b c) more_files _ [] (Ok m.0) m.0 refl m.1;
      means = m.2;
      additions = image.0;
      recorded = image.1;
      image = image.2;
    }
prepared_as g f b c rule a manifest prepared.NothingToDo m needs =
    record { lines = m.0; manifest = manifest; loaded = loads_there g (IsMissing g f b c) more_files _ [] (Ok m.0) m.0 refl m.1; means = m.2; needs = needs }

pub read_of : (g : FileContents) (f : PathSet) (b c : ℕ) (rule : Rule) (a : Asked) (manifest : Manifest) (all : Option Text) (result : Result Prepared PlanFault) → IsMeant (loading_by g f b c) a.path manifest → ◌≡◌ {A = Option Text} all (path_of_all a)
    → IfOk result (λ x. IsPrepared rule manifest all x) → IfOk result (λ x. IsReadAs g rule a x)
read_of g f b c rule a manifest all (Ok x) m same is = prepared_as g f b c rule a manifest x m (subst (λ (o : Option Text). IsPrepared rule manifest o x) same is)
read_of g f b c rule a manifest all (Err fault) m same is = tt

not_read : (loads : MayLoads) (rule : Rule) (path : Text) (manifest : Manifest) (fault : PlanFault) → IsMeant loads path manifest → LacksRecorded rule manifest fault → IsRefused loads path fault ⊎ RefusesRecorded rule loads path fault
not_read loads rule path manifest fault m (inl (inl g)) = inl (inr (inr (inl (record { lines = m.0; manifest = manifest; cause = g.0; loaded = m.1; means = m.2; refused = g.1; says = g.2 }))))
not_read loads rule path manifest fault m (inl (inr e)) = inl (inr (inr (inr (inr (inr (inr e))))))
not_read loads rule path manifest fault m (inr r) = inr (record { lines = m.0; manifest = manifest; loaded = m.1; means = m.2; additions = r.0; recorded = r.1; refused = r.2 })

-- The reason why there is no image says why the manifest isn't read.
pub none_read : (A : Type 0) (g : FileContents) (missing : PathSet) (rule : Rule) (path : Text) (manifest : Manifest) (result : Result A PlanFault) → IsMeant (LoadsFirst g missing) path manifest
    → IfErr result (λ fault. LacksRecorded rule manifest fault) → IfErr result (λ fault. IsNotRead g missing rule path fault)
none_read A g missing rule path manifest (Ok image) m lacks = tt
none_read A g missing rule path manifest (Err fault) m lacks = not_read (LoadsFirst g missing) rule path manifest fault m lacks

-- ---- a run

stopped_run : (shown : Shown) (rule : Rule) (o : Opened) (ran : Result Report LaneFault) (stop : Option PrintFault) (old new : SinkState) (fault : PlanFault) → any_outside o.parts o.targets ≡ false
    → IfOk ran (λ r. IsRunOf rule o r) → IfOk ran (λ r. has_ended r.state.run_state.now ≡ true) → IfErr ran (λ f. FaultReports rule o f)
    → IfSome (report_in ran) (λ r. IsShown shown o.parts r stop old new) → IfNone (report_in ran) (new ≡ old)
    → IsLost ran stop fault → IsNotRun shown rule o old new fault
stopped_run shown rule o (Ok r) (Some stop) old new fault inside run ended reports printed none lost =
    inr (r, inr (record { run = run; ended = ended; stop = stop; printed = printed; says = lost }))
stopped_run shown rule o (Ok r) None old new fault inside run ended reports printed none lost = absurd lost
stopped_run shown rule o (Err (lanes.Opening refused.Memory)) stop old new fault inside run ended reports printed none lost = inl (none, lost)
stopped_run shown rule o (Err (lanes.Opening refused.BadTarget)) stop old new fault inside run ended reports printed none lost = absurd (let clash : false ≡ true = sym inside ∙ reports in cc)
stopped_run shown rule o (Err (lanes.Opening refused.NotEnabled)) stop old new fault inside run ended reports printed none lost = absurd reports
stopped_run shown rule o (Err (lanes.NotEnabled r)) stop old new fault inside run ended reports printed none lost =
    inr (r, inl (record { run = reports; stop = stop; printed = printed; stopped = lanes.NotEnabled r; reports = refl; says = lost }))
stopped_run shown rule o (Err (lanes.NoMemory r)) stop old new fault inside run ended reports printed none lost =
    inr (r, inl (record { run = reports; stop = stop; printed = printed; stopped = lanes.NoMemory r; reports = refl; says = lost }))
stopped_run shown rule o (Err (lanes.NoLane r)) stop old new fault inside run ended reports printed none lost =
    inr (r, inl (record { run = reports; stop = stop; printed = printed; stopped = lanes.NoLane r; reports = refl; says = lost }))
stopped_run shown rule o (Err (lanes.OtherBoard r)) stop old new fault inside run ended reports printed none lost =
    inr (r, inl (record { run = reports; stop = stop; printed = printed; stopped = lanes.OtherBoard r; reports = refl; says = lost }))

-- The reason why a run has no report, from its clauses.
pub not_run : (shown : Shown) (rule : Rule) (o : Opened) (ran : Result Report LaneFault) (stop : Option PrintFault) (old new : SinkState) (result : Result Report PlanFault) → any_outside o.parts o.targets ≡ false
    → IfOk ran (λ r. IsRunOf rule o r) → IfOk ran (λ r. has_ended r.state.run_state.now ≡ true) → IfErr ran (λ f. FaultReports rule o f)
    → IfSome (report_in ran) (λ r. IsShown shown o.parts r stop old new) → IfNone (report_in ran) (new ≡ old)
    → IfErr result (λ fault. IsLost ran stop fault) → IfErr result (λ fault. IsNotRun shown rule o old new fault)
not_run shown rule o ran stop old new (Ok r) inside run ended reports printed none lost = tt
not_run shown rule o ran stop old new (Err fault) inside run ended reports printed none lost = stopped_run shown rule o ran stop old new fault inside run ended reports printed none lost

-- The reason why a run for which no source is missing has no report.
pub not_tried : (number : ℕ) (shown : Shown) (rule : Rule) (o : Opened) (old new : SinkState) (result : Result Report PlanFault)
    → IfErr result (λ fault. IsNotRun shown rule o old new fault) → IfErr result (λ fault. IsNotTried number shown rule o old new fault)
not_tried number shown rule o old new (Ok r) why = tt
not_tried number shown rule o old new (Err fault) (inl x) = inl (x.0, inr x.1)
not_tried number shown rule o old new (Err fault) (inr x) = inr (inr x)

-- The reason why a run isn't opened.
pub not_checked : (number : ℕ) (shown : Shown) (rule : Rule) (o : Opened) (s : SinkState) (fault : PlanFault) → (fault ≡ no_memory) ⊎ LacksSource rule o.parts o.targets number fault → IsNotTried number shown rule o s s fault
not_checked number shown rule o s fault (inl memory) = inl (refl, inl memory)
not_checked number shown rule o s fault (inr lacks) = inr (inl (refl, lacks))

-- ---- the edge that makes the manifest

target_of_maker : (r : Result ℕ PlanFault) (e : ℕ) → Some e ≡ ok_of r → r ≡ Ok e
target_of_maker (Ok d) e is = let same : e ≡ d = cc in ap (λ (n : ℕ). Ok n) (sym same)
target_of_maker (Err fault) e is = absurd cc

pub maker_inside : (p : Parts) (path : Text) (e : ℕ) → Some e ≡ maker_of p path → any_outside p (e ∷ []) ≡ false
maker_inside p path e is = all_inside p (path ∷ []) (e ∷ []) (rw (target_of_maker (target p path) e is) refl)

pub maker_is : (p q : Parts) (path : Text) (m : ℕ) (o : Option ℕ) → q ≡ p → ◌≡◌ {A = Option ℕ} o (Some m) → ◌≡◌ {A = Option ℕ} o (maker_of q path) → ◌≡◌ {A = Option ℕ} (Some m) (maker_of p path)
maker_is p q path m o same is by = sym is ∙ by ∙ ap (λ (x : Parts). maker_of x path) same

-- How a round goes, from the run of the maker.
pub round_by : (gives : FileContents) (shown : Shown) (rule : Rule) (a : Asked) (p : Parts) (maker : ℕ) (r : Report) (old new : SinkState) (x : Round) → IsRead gives rule a.path p → Some maker ≡ maker_of p a.path
    → HasSources rule p (maker ∷ []) → EndsPrinted shown rule (opened p a.limits (maker ∷ [])) r old new → IsRoundOf p maker r x → EndsRound gives shown rule a old new x
round_by gives shown rule a p maker r old new round.NothingToDo read makes sources run is = absurd is
round_by gives shown rule a p maker r old new (round.UpToDate q) read makes sources run is =
    subst (λ (x : Parts). IsRead gives rule a.path x × IsUpToDate shown rule a x old new) (sym is.0)
    (read, inr (record { maker = maker; makes = sym makes; sources = sources; report = r; run = run; well = is.1; clean = is.2 }))
round_by gives shown rule a p maker r old new round.Remade read makes sources run is = record { parts = p; read = read; maker = maker; makes = sym makes; sources = sources; report = r; run = run; well = is.0; ran = is.1 }
round_by gives shown rule a p maker r old new round.Failed read makes sources run is = record { parts = p; read = read; maker = maker; makes = sym makes; sources = sources; report = r; run = run; ill = is }

-- The reason why a round stops, from the run of the maker.
pub maker_stops : (gives : FileContents) (missing : PathSet) (shown : Shown) (rule : Rule) (a : Asked) (p : Parts) (maker : ℕ) (old new : SinkState) (fault : PlanFault) → IsRead gives rule a.path p → Some maker ≡ maker_of p a.path
    → IsNotTried maker_source shown rule (opened p a.limits (maker ∷ [])) old new fault → RoundStops gives missing shown rule a old new fault
maker_stops gives missing shown rule a p maker old new fault read makes (inl x) = inl (x.0, inr x.1)
maker_stops gives missing shown rule a p maker old new fault read makes (inr x) = inr (record { parts = p; read = read; maker = maker; makes = sym makes; stops = x })

-- ---- if files may hold the same

module _ (g h : FileContents) (gh : (p : Text) (bytes : Option (List ℕ)) → g p bytes → h p bytes) where
  read_wider : (rule : Rule) (path : Text) (p : Parts) → IsRead g rule path p → IsRead h rule path p
  read_wider rule path p r = record {
    lines = r.lines;
    manifest = r.manifest;
    loaded = loads_wider g h Nowhere Nowhere gh (λ q x. x) more_files _ [] _ r.loaded;
    means = r.means;
    additions = r.additions;
    recorded = r.recorded;
    image = r.image;
  }

  finds_wider : (rule : Rule) (a : Asked) → FindsNothingToDo g rule a → FindsNothingToDo h rule a
  finds_wider rule a x = record {
    lines = x.lines;
    manifest = x.manifest;
    loaded = loads_wider g h Nowhere Nowhere gh (λ q y. y) more_files _ [] _ x.loaded;
    means = x.means;
    needs = x.needs;
  }

  pub round_wider : (shown : Shown) (rule : Rule) (a : Asked) (old new : SinkState) (x : Round) → EndsRound g shown rule a old new x → EndsRound h shown rule a old new x
  round_wider shown rule a old new (round.UpToDate p) x = (read_wider rule a.path p x.0, x.1)
  round_wider shown rule a old new round.NothingToDo x = (finds_wider rule a x.0, x.1)
  round_wider shown rule a old new round.Remade x = record { parts = x.parts; read = read_wider rule a.path x.parts x.read; maker = x.maker; makes = x.makes; sources = x.sources; report = x.report; run = x.run; well = x.well; ran = x.ran }
  round_wider shown rule a old new round.Failed x = record { parts = x.parts; read = read_wider rule a.path x.parts x.read; maker = x.maker; makes = x.makes; sources = x.sources; report = x.report; run = x.run; ill = x.ill }

  pub stops_wider : (m n : PathSet) → ((p : Text) → m p → n p) → (shown : Shown) (rule : Rule) (a : Asked) (old new : SinkState) (fault : PlanFault) → RoundStops g m shown rule a old new fault → RoundStops h n shown rule a old new fault
  stops_wider m n mn shown rule a old new fault (inl (same, inl x)) = inl (same, inl (not_read_wider g h m n gh mn rule a.path fault x))
  stops_wider m n mn shown rule a old new fault (inl (same, inr x)) = inl (same, inr x)
  stops_wider m n mn shown rule a old new fault (inr x) = inr (record { parts = x.parts; read = read_wider rule a.path x.parts x.read; maker = x.maker; makes = x.makes; stops = x.stops })

-- ---- facts on the way

-- A sink that is returned unchanged has the same counts.
pub same_if_none : {A : Type 0} (P Q : Type 0) (o : Option A) → (P → Q) → IfNone o P → IfNone o Q
same_if_none P Q None f p = f p
same_if_none P Q (Some x) f p = tt

pub ok_so : {A B : Type 0} (P : A → Type 0) (r : Result A B) (x : A) → r ≡ Ok x → IfOk r P → P x
ok_so P r x is h = subst (λ t. IfOk t P) is h

pub err_so : {A B : Type 0} (P : B → Type 0) (r : Result A B) (x : B) → r ≡ Err x → IfErr r P → P x
err_so P r x is h = subst (λ t. IfErr t P) is h

pub on_ok : {A B : Type 0} (P : Type 0) (r : Result A B) (x : A) → r ≡ Ok x → OnOk r P → P
on_ok P r x is h = subst (λ t. OnOk t P) is h

pub round_so : (P : Round → Type 0) (r : Result Round PlanFault) (x y : Round) → r ≡ Ok x → x ≡ y → IfOk r P → P y
round_so P r x y is same h = subst P same (ok_so P r x is h)

same_targets : (p q : Parts) (names : List Text) (edges : List ℕ) → q ≡ p → targets q names ≡ Ok edges → targets p names ≡ Ok edges
same_targets p q names edges same is = ap (λ (x : Parts). targets x names) (sym same) ∙ is

-- ---- how a build ends

-- No edge with a number below this ran its command.
abbrev pub HasRunNoneBelow : Report → ℕ → Type 0
HasRunNoneBelow r n = (e : ℕ) → e < n → outcome_in r e ≡ Some Ran → ⊥

pub none_below_zero : (r : Report) → HasRunNoneBelow r 0
none_below_zero r e below is = absurd (omega (arith, below))

pub one_more_idle : (r : Report) (n : ℕ) → HasRunNoneBelow r n → (outcome_in r n ≡ Some Ran → ⊥) → HasRunNoneBelow r (n + 1)
one_more_idle r n before here e below is = by (cases_order e n)
  where
    by : (e ≡ n) ⊎ ((e < n) ⊎ (n < e)) → ⊥
    by (inl same) = here (subst (λ (k : ℕ). outcome_in r k ≡ Some Ran) same is)
    by (inr (inl less)) = before e less is
    by (inr (inr more)) = absurd (omega (arith, below, more))

pub none_at_all : (r : Report) (n : ℕ) → length r.state.run_state.now.edges ≡ n → HasRunNoneBelow r n → HasRunNothing r
none_at_all r n long before e is = by (slice_get_cases r.state.run_state.now.edges e).1
  where
    by : ((x : Status) × (e < length r.state.run_state.now.edges) × (slice_get r.state.run_state.now.edges e ≡ Some x) × (get_or r.state.run_state.now.edges e x ≡ x)) ⊎ ((length r.state.run_state.now.edges ≤ e) × (slice_get r.state.run_state.now.edges e ≡ None)) → ⊥
    by (inl (x, below, at, there)) = before e (subst (λ (k : ℕ). e < k) long below) is
    by (inr (beyond, none)) = absurd (let clash = sym (ap outcome_at none) ∙ is in cc)

-- ---- the run for the targets

pub targets_inside : (p q : Parts) (names : List Text) (edges given : List ℕ) → q ≡ p → targets q names ≡ Ok edges → given ≡ edges → any_outside p given ≡ false
targets_inside p q names edges given same is as' = ap (any_outside p) as' ∙ all_inside p names edges (same_targets p q names edges same is)

pub targets_run : (shown : Shown) (rule : Rule) (a : Asked) (p q : Parts) (edges given : List ℕ) (ran : Result Report PlanFault) (r : Report) (old new : SinkState) (d : Done) → q ≡ p → targets q a.names ≡ Ok edges → given ≡ edges
    → ran ≡ Ok r → OnOk ran (HasSources rule p given) → IfOk ran (λ x. EndsPrinted shown rule (opened p a.limits given) x old new) → EndsAs p r d → RunsTargets shown rule a p old new d
targets_run shown rule a p q edges given ran r old new d same is as' ok sources run ended =
    record {
      edges = edges;
      targets = same_targets p q a.names edges same is;
      sources = subst (λ (es : List ℕ). HasSources rule p es) as' (on_ok (HasSources rule p given) ran r ok sources);
      report = r;
      run = subst (λ (es : List ℕ). EndsPrinted shown rule (opened p a.limits es) r old new) as' (ok_so (λ x. EndsPrinted shown rule (opened p a.limits given) x old new) ran r ok run);
      ends = ended;
    }

-- No edge makes a target, or memory ran out.
pub unknown_target : (a : Asked) (shown : Shown) (rule : Rule) (p q : Parts) (s : SinkState) (memory fault : PlanFault) → q ≡ p → (fault ≡ memory) ⊎ (targets q a.names ≡ Err fault) → ((fault ≡ memory) → LacksMemory fault)
    → TargetsStop shown rule a p s s fault
unknown_target a shown rule p q s memory fault same (inl is) lacks = inl (refl, inr (lacks is))
unknown_target a shown rule p q s memory fault same (inr is) lacks = inl (refl, inl (ap (λ (x : Parts). targets x a.names) (sym same) ∙ is))

pub targets_stop : (shown : Shown) (rule : Rule) (a : Asked) (p q : Parts) (edges given : List ℕ) (old new : SinkState) (fault : PlanFault) → q ≡ p → targets q a.names ≡ Ok edges → given ≡ edges
    → IsNotTried target_source shown rule (opened p a.limits given) old new fault → TargetsStop shown rule a p old new fault
targets_stop shown rule a p q edges given old new fault same is as' (inl x) = inl (x.0, inr x.1)
targets_stop shown rule a p q edges given old new fault same is as' (inr x) =
    inr (edges, same_targets p q a.names edges same is, subst (λ (es : List ℕ). RunFails target_source shown rule (opened p a.limits es) old new fault) as' x)

-- ---- rounds

-- The given number of rounds were done, and the files may hold the same as before them.
pub record AreRounds (g h : FileContents) (f k : PathSet) (b c : ℕ) (shown : Shown) (rule : Rule) (a : Asked) (n : ℕ) (old new : SinkState) : Type 0 where
  pub same : SameFiles h k g f
  pub count : c ≡ b
  pub rounds : Rounds g shown rule a n old new

pub no_rounds : (g : FileContents) (f : PathSet) (b : ℕ) (shown : Shown) (rule : Rule) (a : Asked) (s : SinkState) → AreRounds g g f f b b shown rule a 0 s s
no_rounds g f b shown rule a s = record { same = (λ p bytes. (λ x. x, λ x. x), λ p. (λ x. x, λ x. x)); count = refl; rounds = no_round }

module _ (g h : FileContents) (f k : PathSet) (b c : ℕ) (shown : Shown) (rule : Rule) (a : Asked) (n : ℕ) (old mid : SinkState) (so : AreRounds g h f k b c shown rule a n old mid) where
  back : (p : Text) (bytes : Option (List ℕ)) → h p bytes → g p bytes
  back p bytes x = (so.same.0 p bytes).0 x

  missed : (d : ℕ) (p : Text) → IsMissing h k c d p → IsMissing g f b d p
  missed d p (inl x) = inl (back p None x.0, x.1 ∙ so.count)
  missed d p (inr x) = inr ((so.same.1 p).0 x.0, x.1 ∙ ap (λ (i : ℕ). i + 1) so.count)

  pub files_stay : (h2 : FileContents) (k2 : PathSet) → SameFiles h2 k2 h k → SameFiles h2 k2 g f
  files_stay h2 k2 files = (
    λ p bytes. (λ x. (so.same.0 p bytes).0 ((files.0 p bytes).0 x), λ x. (files.0 p bytes).1 ((so.same.0 p bytes).1 x)),
    λ p. (λ x. (so.same.1 p).0 ((files.1 p).0 x), λ x. (files.1 p).1 ((so.same.1 p).1 x)),
  )

  pub then_remade : (h2 : FileContents) (k2 : PathSet) (c2 : ℕ) (new : SinkState) → EndsRound h shown rule a mid new round.Remade → SameFiles h2 k2 h k → c2 ≡ c → AreRounds g h2 f k2 b c2 shown rule a (suc n) old new
  then_remade h2 k2 c2 new ended files count =
      record {
        same = files_stay h2 k2 files;
        count = count ∙ so.count;
        rounds = one_more so.rounds (round_wider h g back shown rule a mid new round.Remade ended);
      }

  pub then_fails : (new : SinkState) → n < most_rounds → EndsRound h shown rule a mid new round.Failed → FailsToRemake g shown rule a old new
  then_fails new few ended = record { rounds = n; few = few; middle = mid; remade = so.rounds; fails = round_wider h g back shown rule a mid new round.Failed ended }

  pub then_idle : (new : SinkState) → n < most_rounds → EndsRound h shown rule a mid new round.NothingToDo → Builds g shown rule a old new done.UpToDate
  then_idle new few ended =
      let found = round_wider h g back shown rule a mid new round.NothingToDo ended in
      inr (record { rounds = n; few = few; remade = subst (λ (s : SinkState). Rounds g shown rule a n old s) (sym found.1) so.rounds; finds = found.0 })

  targets_built : (p : Parts) (later new : SinkState) (d : Done) → n < most_rounds → EndsRound h shown rule a mid later (round.UpToDate p) → RunsTargets shown rule a p later new d → BuildsTargets g shown rule a old new d
  targets_built p later new d few ended x =
      let settled = round_wider h g back shown rule a mid later (round.UpToDate p) ended in
      record {
        rounds = n;
        few = few;
        middle = mid;
        remade = so.rounds;
        parts = p;
        read = settled.0;
        later = later;
        settled = settled.1;
        edges = x.edges;
        targets = x.targets;
        sources = x.sources;
        report = x.report;
        run = x.run;
        ends = x.ends;
      }

  then_built : (p : Parts) (later new : SinkState) (d : Done) → n < most_rounds → EndsRound h shown rule a mid later (round.UpToDate p) → RunsTargets shown rule a p later new d → Builds g shown rule a old new d
  then_built p later new done.Built few ended x = targets_built p later new done.Built few ended x
  then_built p later new done.UpToDate few ended x = inl (targets_built p later new done.UpToDate few ended x)
  then_built p later new done.Failed few ended x = targets_built p later new done.Failed few ended x
  then_built p later new done.ManifestFails few ended x = absurd x.ends
  then_built p later new done.NeverSettles few ended x = absurd x.ends

  pub all_built : {B : Type 0} (p : Parts) (later new : SinkState) (result : Result Done B) → n < most_rounds → EndsRound h shown rule a mid later (round.UpToDate p) → IfOk result (λ d. RunsTargets shown rule a p later new d)
      → IfOk result (λ d. Builds g shown rule a old new d)
  all_built p later new (Ok d) few ended x = then_built p later new d few ended x
  all_built p later new (Err fault) few ended x = tt

  pub then_stops : (d : ℕ) (new : SinkState) (fault : PlanFault) → n < most_rounds → RoundStops h (IsMissing h k c d) shown rule a mid new fault → Stops g (IsMissing g f b d) shown rule a old new fault
  then_stops d new fault few stops =
      record { rounds = n; few = few; middle = mid; remade = so.rounds; stops = inl (stops_wider h g back (IsMissing h k c d) (IsMissing g f b d) (missed d) shown rule a mid new fault stops) }

  pub all_stopped : {B : Type 0} (missing : PathSet) (p : Parts) (later new : SinkState) (result : Result B PlanFault) → n < most_rounds → EndsRound h shown rule a mid later (round.UpToDate p)
      → IfErr result (λ fault. TargetsStop shown rule a p later new fault) → IfErr result (λ fault. Stops g missing shown rule a old new fault)
  all_stopped missing p later new (Ok d) few ended why = tt
  all_stopped missing p later new (Err fault) few ended why =
      let settled = round_wider h g back shown rule a mid later (round.UpToDate p) ended in
      record { rounds = n; few = few; middle = mid; remade = so.rounds; stops = inr (record { parts = p; read = settled.0; later = later; settled = settled.1; stops = why }) }
