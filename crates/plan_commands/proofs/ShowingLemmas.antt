-- How runs are shown. Serves src/printed_runs.rt, src/running.rt and src/building.rt.
use Rattle.std.proofs.Common.{◌≡◌, ◌∙◌, ℕ, zero, true, List, [], Option, Some, None, Result, Ok, Err, IfOk, IfErr, IfSome, refl, sym, ap, subst, arith}
use Rattle.std.proofs.KnownBytes.{Appends-nil}
use Rattle.plan_image.specs.declared.image.Parts.{Parts}
use Rattle.plan_machine.specs.declared.event.Mark.{Mark}
use Rattle.plan_machine.specs.Kept.{IsStateOf}
use Rattle.plan_machine.specs.State.{has_ended}
use Rattle.plan_machine.specs.Total.{total_of}
use Rattle.plan_status.specs.Formats.{HasPrinted, LinesArePrinted, TellsLines}
use Rattle.plan_status.specs.Printing.{Prints}
use Rattle.plan_status.specs.declared.fault.PrintFault.{PrintFault}
use Rattle.plan_lanes.specs.Faults.{FaultReports}
use Rattle.plan_lanes.specs.Journals.{Rule}
use Rattle.plan_lanes.specs.Progress.{Opened}
use Rattle.plan_lanes.specs.Reports.{IsRunOf, IsTotalOf}
use Rattle.plan_lanes.specs.declared.board.Report.{Report}
use Rattle.plan_lanes.specs.declared.fault.LaneFault.{LaneFault}
use Rattle.plan_lanes.specs.declared.fault.LaneFault.TheVariants as lanes
use Rattle.plan_printing.specs.declared.fault.PlanFault.{PlanFault}
use Rattle.plan_commands.specs.Images.{SinkState}
use Rattle.plan_commands.specs.Running.{EndsPrinted, lines_in, report_in}
use Rattle.plan_commands.specs.Showing.{IsShown, Shown, by_format}

-- Nothing is printed yet.
pub nothing_printed : (tells : List Mark → List ℕ → Type 0) (marks : List Mark) (stop : Option PrintFault) (a : SinkState) → marks ≡ [] → stop ≡ None → tells [] [] → HasPrinted tells marks stop a a
nothing_printed tells marks stop a none going begins =
    subst (λ (ms : List Mark). HasPrinted tells ms stop a a) (sym none)
    (subst (λ (s : Option PrintFault). HasPrinted tells [] s a a) (sym going)
    (record { count = zero; within = omega arith; all = λ is. refl; text = []; told = begins; printed = (refl, Appends-nil a.1) }))

-- What holds for each state of a sink before, holds for this one.
pub at_start : {X S : Type 0} (A : S → Type 0) (B : X → S → Type 0) (o : Option X) (start : S) → IfSome o (λ x. (s : S) → A s → B x s) → A start → IfSome o (λ x. B x start)
at_start A B None start h a = tt
at_start A B (Some x) start h a = h start a

module _ {F K : Type 0} (kept : F → K) (tells : F → Parts → ℕ → List Mark → List ℕ → Type 0) (k : K) (f : F) (rule : Rule) (o : Opened) (p : Parts) (total : ℕ) (stop : Option PrintFault) (old new : SinkState)
    (same : kept f ≡ k) (parts : o.parts ≡ p) (all : IsTotalOf rule o total) where
  one_shown : (r : Report) → IsRunOf rule o r → HasPrinted (tells f p total) r.marks.items stop old new → IsShown (by_format kept tells k) p r stop old new
  one_shown r run printed =
      (f, same, subst (λ (n : ℕ). HasPrinted (tells f p n) r.marks.items stop old new) (all r run ∙ ap (λ (q : Parts). total_of q r.state.run_state.now) parts) printed)

  -- The total that a run was opened with is that of its report.
  pub shown_live : (ran : Result Report LaneFault) → IfOk ran (λ r. IsRunOf rule o r) → IfErr ran (λ x. FaultReports rule o x)
      → IfSome (report_in ran) (λ r. HasPrinted (tells f p total) r.marks.items stop old new) → IfSome (report_in ran) (λ r. IsShown (by_format kept tells k) p r stop old new)
  shown_live (Ok r) run reports printed = one_shown r run printed
  shown_live (Err (lanes.Opening x)) run reports printed = tt
  shown_live (Err (lanes.NotEnabled r)) run reports printed = one_shown r reports printed
  shown_live (Err (lanes.NoMemory r)) run reports printed = one_shown r reports printed
  shown_live (Err (lanes.NoLane r)) run reports printed = one_shown r reports printed
  shown_live (Err (lanes.OtherBoard r)) run reports printed = one_shown r reports printed

-- Status lines are printed.
pub lines_shown : LinesArePrinted → {F K : Type 0} (ended : F → ℕ) (kept : F → K) (k : K) (p : Parts) (o : Option Report) (stop : Option PrintFault) (old new : SinkState)
    → IfSome o (λ r. IsShown (by_format kept (λ (f : F). TellsLines (ended f)) k) p r stop old new) → IfSome o (λ r. Prints (lines_in p r) stop old new)
lines_shown law ended kept k p None stop old new h = tt
lines_shown law ended kept k p (Some r) stop old new h = law (ended h.0) p (total_of p r.state.run_state.now) r.marks.items stop old new h.2

-- ---- a run that has ended

ok_at : {A B : Type 0} (P : A → Type 0) (r : Result A B) (x : A) → r ≡ Ok x → IfOk r P → P x
ok_at P r x is h = subst (λ t. IfOk t P) is h

pub run_ends : (shown : Shown) (rule : Rule) (o : Opened) (ran : Result Report LaneFault) (stop : Option PrintFault) (old new : SinkState) (result : Result Report PlanFault)
    → IfOk ran (λ r. IsRunOf rule o r) → IfOk ran (λ r. has_ended r.state.run_state.now ≡ true) → IfSome (report_in ran) (λ r. IsShown shown o.parts r stop old new)
    → IfOk result (λ r. (ran ≡ Ok r) × (stop ≡ None)) → IfOk result (λ r. EndsPrinted shown rule o r old new)
run_ends shown rule o ran stop old new (Err fault) run ended printed done = tt
run_ends shown rule o ran stop old new (Ok r) run ended printed done =
    let told : IsShown shown o.parts r stop old new = subst (λ (x : Result Report LaneFault). IfSome (report_in x) (λ r. IsShown shown o.parts r stop old new)) done.0 printed in
    record {
      run = ok_at (λ (r : Report). IsRunOf rule o r) ran r done.0 run;
      ended = ok_at (λ (r : Report). has_ended r.state.run_state.now ≡ true) ran r done.0 ended;
      printed = subst (λ (s : Option PrintFault). IsShown shown o.parts r s old new) done.1 told;
    }

pub run_has_state : (rule : Rule) (o : Opened) (ran : Result Report LaneFault) (stop : Option PrintFault) (result : Result Report PlanFault)
    → IfOk ran (λ r. IsRunOf rule o r) → IfOk result (λ r. (ran ≡ Ok r) × (stop ≡ None)) → IfOk result (λ r. IsStateOf o.parts r.state)
run_has_state rule o ran stop (Err fault) run done = tt
run_has_state rule o ran stop (Ok r) run done = (ok_at (λ (r : Report). IsRunOf rule o r) ran r done.0 run).state
