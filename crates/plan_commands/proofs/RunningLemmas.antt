-- Lemmas about the results of runs. Serves src/running.rt.
use Rattle.std.proofs.Common.{◌≡◌, ◌⊎◌, ◌∙◌, ℕ, Bool, true, List, Option, Some, None, Result, Ok, Err, IfOk, IfErr, IfSome, IfNone, inl, inr, false, refl, sym, ap, subst}
use Rattle.plan_image.specs.declared.image.Parts.{Parts}
use Rattle.plan_verify.specs.WellShaped.{IsWellShaped}
use Rattle.plan_machine.specs.Limits.{Limits}
use Rattle.plan_machine.specs.State.{has_ended}
use Rattle.plan_scope.specs.Scopes.{Text}
use Rattle.plan_scope.specs.Loading.{FileContents, PathSet}
use Rattle.plan_machine.specs.declared.run.refused.Refused.TheVariants as refused
use Rattle.plan_lanes.specs.Faults.{FaultReports, report_of}
use Rattle.plan_lanes.specs.Journals.{Rule}
use Rattle.plan_lanes.specs.Progress.{Opened}
use Rattle.plan_lanes.specs.Reports.{IsRunOf}
use Rattle.plan_lanes.specs.declared.board.Report.{Report}
use Rattle.plan_lanes.specs.declared.fault.LaneFault.{LaneFault}
use Rattle.plan_lanes.specs.declared.fault.LaneFault.TheVariants as lanes
use Rattle.plan_status.specs.Printing.{Prints}
use Rattle.plan_status.specs.declared.fault.PrintFault.{PrintFault}
use Rattle.plan_printing.specs.declared.fault.PlanFault.{PlanFault}
use Rattle.plan_printing.specs.Faults.{no_memory}
use Rattle.plan_commands.specs.Images.{IsImageAt, SinkState}
use Rattle.plan_commands.specs.Targets.{targets}
use Rattle.plan_commands.specs.Running.{FailsToRun, IsKeptFor, IsNotBegun, IsOpened, IsUnknown, Runs, Tells, TellsAll, TellsSome, Traces, Wanted, WritesTrace, Written, both, lines_in, opening_memory, printed_lane_fault, report_in}
use Rattle.plan_commands.proofs.TargetLemmas.{all_inside}

-- A run that has ended, was printed, and has its trace.
whole_run : (gives : FileContents) (rule : Rule) (w : Wanted) (o : Opened) (r : Report) (old new : Written) (told : Result ℕ PlanFault) (written : Result Unit PlanFault)
    → IsOpened gives w o → IsRunOf rule o r → has_ended r.state.run_state.now ≡ true → Tells o.parts r old.0 new.0 told → WritesTrace w.trace o.limits o.targets r old.1 new.1 written
    → IfOk (both told written) (λ status. Runs gives rule w old new status)
whole_run gives rule w o r old new (Ok status) (Ok done) is run ended told written =
    record { opened = o; is = is; report = r; ends = record { run = run; ended = ended; printed = told.0 }; write_trace_of = written; answers = told.1 }
whole_run gives rule w o r old new (Ok status) (Err fault) is run ended told written = tt
whole_run gives rule w o r old new (Err fault) (Ok done) is run ended told written = tt
whole_run gives rule w o r old new (Err fault) (Err other) is run ended told written = tt

pub run_done : (gives : FileContents) (rule : Rule) (w : Wanted) (o : Opened) (ran : Result Report LaneFault) (old new : Written) (result : Result ℕ PlanFault)
    → IsOpened gives w o → IfOk ran (λ r. IsRunOf rule o r) → IfOk ran (λ r. has_ended r.state.run_state.now ≡ true)
    → IfOk ran (λ r. TellsAll w.trace o.parts o.limits o.targets r old new result)
    → IfErr ran (λ f. result ≡ Err (printed_lane_fault f)) → IfOk result (λ status. Runs gives rule w old new status)
run_done gives rule w o (Ok r) old new result is run ended tells err =
    subst (λ (t : Result ℕ PlanFault). IfOk t (λ status. Runs gives rule w old new status)) (sym tells.4)
    (whole_run gives rule w o r old new tells.0 tells.1 is run ended tells.2 tells.3)
run_done gives rule w o (Err f) old new result is run ended tells err = subst (λ (t : Result ℕ PlanFault). IfOk t (λ status. Runs gives rule w old new status)) (sym err) tt

-- The reasons why a run gives no status. `same` says that nothing was printed or written.
abbrev pub IsRefusedRun : (same : Type 0) → FileContents → PathSet → Rule → Wanted → (old new : Written) → PlanFault → Type 0
IsRefusedRun same gives missing rule w old new fault = (same × IsNotBegun gives missing w fault) ⊎ FailsToRun gives rule w old new fault

untold : (same : Type 0) (gives : FileContents) (missing : PathSet) (rule : Rule) (w : Wanted) (o : Opened) (r : Report) (old new : Written) (told : Result ℕ PlanFault) (written : Result Unit PlanFault)
    → IsOpened gives w o → IsRunOf rule o r → has_ended r.state.run_state.now ≡ true → Tells o.parts r old.0 new.0 told → WritesTrace w.trace o.limits o.targets r old.1 new.1 written
    → IfErr (both told written) (λ fault. IsRefusedRun same gives missing rule w old new fault)
untold same gives missing rule w o r old new (Ok status) (Ok done) is run ended told written = tt
untold same gives missing rule w o r old new (Ok status) (Err fault) is run ended told written =
    inr (inr (inr (record { opened = o; is = is; report = r; ends = record { run = run; ended = ended; printed = told.0 }; write_trace_of = written.0; says = written.1 })))
untold same gives missing rule w o r old new (Err fault) (Ok done) is run ended told written =
    inr (inr (inl (record { opened = o; is = is; report = r; fails = record { run = run; ended = ended; stop = told.0; printed = told.1; says = told.2 }; whole = true; write_trace_of = written })))
untold same gives missing rule w o r old new (Err fault) (Err other) is run ended told written =
    inr (inr (inl (record { opened = o; is = is; report = r; fails = record { run = run; ended = ended; stop = told.0; printed = told.1; says = told.2 }; whole = false; write_trace_of = written.0 })))

-- Lanes stopped with a report.
stopped_with : (same : Type 0) (gives : FileContents) (missing : PathSet) (rule : Rule) (w : Wanted) (o : Opened) (r : Report) (f : LaneFault) (old new : Written)
    → IsOpened gives w o → IsRunOf rule o r → report_of f ≡ Some r → TellsSome w.trace o.parts o.limits o.targets r old new
    → IsRefusedRun same gives missing rule w old new (printed_lane_fault f)
stopped_with same gives missing rule w o r f old new is run reports some =
    inr (inl (record { opened = o; is = is; report = r; stops = record { run = run; stop = some.0; printed = some.2; stopped = f; reports = reports; says = refl }; whole = some.1; write_trace_of = some.3 }))

stopped_run : (same : Type 0) (gives : FileContents) (missing : PathSet) (rule : Rule) (w : Wanted) (o : Opened) (f : LaneFault) (old new : Written)
    → IsOpened gives w o → FaultReports rule o f → IfNone (report_of f) same → IfSome (report_of f) (λ r. TellsSome w.trace o.parts o.limits o.targets r old new)
    → IsRefusedRun same gives missing rule w old new (printed_lane_fault f)
stopped_run same gives missing rule w o (lanes.Opening refused.Memory) old new is reports none some = inl (none, inr (inr (inr refl)))
stopped_run same gives missing rule w o (lanes.Opening refused.BadTarget) old new is reports none some =
    absurd (let clash : false ≡ true = sym (all_inside o.parts w.names o.targets is.targets) ∙ reports in cc)
stopped_run same gives missing rule w o (lanes.Opening refused.NotEnabled) old new is reports none some = absurd reports
stopped_run same gives missing rule w o (lanes.NotEnabled r) old new is reports none some = stopped_with same gives missing rule w o r (lanes.NotEnabled r) old new is reports refl some
stopped_run same gives missing rule w o (lanes.NoMemory r) old new is reports none some = stopped_with same gives missing rule w o r (lanes.NoMemory r) old new is reports refl some
stopped_run same gives missing rule w o (lanes.NoLane r) old new is reports none some = stopped_with same gives missing rule w o r (lanes.NoLane r) old new is reports refl some
stopped_run same gives missing rule w o (lanes.OtherBoard r) old new is reports none some = stopped_with same gives missing rule w o r (lanes.OtherBoard r) old new is reports refl some

-- No edge makes a target, or memory ran out.
pub not_opened : (gives : FileContents) (path : Text) (names : List Text) (p q : Parts) (fault : PlanFault) → q ≡ p → IsImageAt gives path p × IsWellShaped p
    → (fault ≡ no_memory) ⊎ (targets q names ≡ Err fault) → IsUnknown gives path names fault ⊎ ((fault ≡ no_memory) ⊎ (fault ≡ opening_memory))
not_opened gives path names p q fault same image (inl is) = inr (inl is)
not_opened gives path names p q fault same image (inr is) = inl (p, image.0, image.1, ap (λ (x : Parts). targets x names) (sym same) ∙ is)

pub run_refused : (same : Type 0) (gives : FileContents) (missing : PathSet) (rule : Rule) (w : Wanted) (o : Opened) (ran : Result Report LaneFault) (old new : Written)
    (result : Result ℕ PlanFault) → IsOpened gives w o → IfOk ran (λ r. IsRunOf rule o r) → IfOk ran (λ r. has_ended r.state.run_state.now ≡ true) → IfErr ran (λ f. FaultReports rule o f)
    → IfOk ran (λ r. TellsAll w.trace o.parts o.limits o.targets r old new result) → IfErr ran (λ f. result ≡ Err (printed_lane_fault f))
    → IfErr ran (λ f. IfSome (report_of f) (λ r. TellsSome w.trace o.parts o.limits o.targets r old new))
    → IfErr ran (λ f. IfNone (report_of f) same) → IfErr result (λ fault. IsRefusedRun same gives missing rule w old new fault)
run_refused same gives missing rule w o (Ok r) old new result is run ended reports tells err some none =
    subst (λ (t : Result ℕ PlanFault). IfErr t (λ fault. IsRefusedRun same gives missing rule w old new fault)) (sym tells.4)
    (untold same gives missing rule w o r old new tells.0 tells.1 is run ended tells.2 tells.3)
run_refused same gives missing rule w o (Err f) old new result is run ended reports tells err some none =
    subst (λ (t : Result ℕ PlanFault). IfErr t (λ fault. IsRefusedRun same gives missing rule w old new fault)) (sym err)
    (stopped_run same gives missing rule w o f old new is reports none some)

-- ---- what was printed and what came of the run

pub told_all : (trace : Option Text) (p : Parts) (limits : Limits) (edges : List ℕ) (ran : Result Report LaneFault) (stop : Option PrintFault) (old new : Written) (result : Result ℕ PlanFault)
    → IfSome (report_in ran) (λ r. Prints (lines_in p r) stop old.0 new.0)
    → IfOk ran (λ r. (a b : SinkState) → Prints (lines_in p r) stop a b → TellsAll trace p limits edges r (a, old.1) (b, new.1) result)
    → IfOk ran (λ r. TellsAll trace p limits edges r old new result)
told_all trace p limits edges (Ok r) stop old new result printed tells = tells old.0 new.0 printed
told_all trace p limits edges (Err f) stop old new result printed tells = tt

some_of : (trace : Option Text) (p : Parts) (limits : Limits) (edges : List ℕ) (o : Option Report) (stop : Option PrintFault) (old new : Written)
    → IfSome o (λ r. Prints (lines_in p r) stop old.0 new.0) → IfSome o (λ r. (whole : Bool) × Traces trace limits edges r whole old.1 new.1)
    → IfSome o (λ r. TellsSome trace p limits edges r old new)
some_of trace p limits edges None stop old new printed write_trace_of = tt
some_of trace p limits edges (Some r) stop old new printed write_trace_of = (stop, write_trace_of.0, printed, write_trace_of.1)

pub told_some : (trace : Option Text) (p : Parts) (limits : Limits) (edges : List ℕ) (ran : Result Report LaneFault) (stop : Option PrintFault) (old new : Written)
    → IfSome (report_in ran) (λ r. Prints (lines_in p r) stop old.0 new.0)
    → IfErr ran (λ f. IfSome (report_of f) (λ r. (whole : Bool) × Traces trace limits edges r whole old.1 new.1))
    → IfErr ran (λ f. IfSome (report_of f) (λ r. TellsSome trace p limits edges r old new))
told_some trace p limits edges (Ok r) stop old new printed write_trace_of = tt
told_some trace p limits edges (Err f) stop old new printed write_trace_of = some_of trace p limits edges (report_of f) stop old new printed write_trace_of

none_of : (one other : Type 0) (o : Option Report) → IfNone o one → IfNone o other → IfNone o (one × other)
none_of one other None x y = (x, y)
none_of one other (Some r) x y = tt

pub told_none : (one other : Type 0) (ran : Result Report LaneFault) → IfNone (report_in ran) one → IfErr ran (λ f. IfNone (report_of f) other)
    → IfErr ran (λ f. IfNone (report_of f) (one × other))
told_none one other (Ok r) x y = tt
told_none one other (Err f) x y = none_of one other (report_of f) x y

-- ---- which events are kept

-- A run without a trace needs none.
pub nothing_kept : (o : Option Report) → IfSome o (λ r. IsKeptFor None r)
nothing_kept None = tt
nothing_kept (Some r) = tt

-- What is kept of the report that was found.
pub kept_of : (trace : Option Text) (o : Option Report) (r : Report) → IfSome o (λ r. IsKeptFor trace r) → Some r ≡ o → IsKeptFor trace r
kept_of trace o r kept is = subst (λ (o : Option Report). IfSome o (λ r. IsKeptFor trace r)) (sym is) kept

-- Equal lists of targets open the same run.
pub with_targets : (gives : FileContents) (w : Wanted) (within : Limits) (p : Parts) (ts us : List ℕ) → us ≡ ts
    → IsOpened gives w (record { parts = p; limits = within; targets = ts }) → IsOpened gives w (record { parts = p; limits = within; targets = us })
with_targets gives w within p ts us same is = subst (λ (vs : List ℕ). IsOpened gives w (record { parts = p; limits = within; targets = vs })) (sym same) is
