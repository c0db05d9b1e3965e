-- The behavior of `run IMG`.
use Rattle.std.specs.Prelude.{◌≡◌, ◌⊎◌, ℕ, Bool, true, false, List, [], Option, Some, None, Result, Ok, Err}
use Rattle.plan_text.specs.Sinks.{Writes}
use Rattle.plan_scope.specs.Scopes.{Text}
use Rattle.plan_scope.specs.Loading.{FileContents, PathSet}
use Rattle.plan_image.specs.declared.image.Parts.{Parts}
use Rattle.plan_verify.specs.WellShaped.{IsWellShaped}
use Rattle.plan_machine.specs.Limits.{Limits}
use Rattle.plan_machine.specs.State.{has_ended}
use Rattle.plan_machine.specs.Total.{total_of}
use Rattle.plan_status.specs.Lines.{lines_of}
use Rattle.plan_status.specs.Outcomes.{all_done}
use Rattle.plan_status.specs.Printing.{Prints}
use Rattle.plan_status.specs.declared.fault.PrintFault.{PrintFault}
use Rattle.plan_status.specs.declared.fault.PrintFault.TheVariants as print
use Rattle.plan_trace.specs.Spelling.{run_text}
use Rattle.plan_lanes.specs.Journals.{Rule}
use Rattle.plan_lanes.specs.Progress.{Opened}
use Rattle.plan_lanes.specs.Reports.{IsRunOf}
use Rattle.plan_lanes.specs.Faults.{number_of, report_of}
use Rattle.plan_lanes.specs.declared.board.Report.{Report}
use Rattle.plan_lanes.specs.declared.fault.LaneFault.{LaneFault}
use Rattle.plan_printing.specs.declared.fault.PlanFault.{PlanFault}
use Rattle.plan_printing.specs.Faults.{file_fault, no_memory, output_fault}
use Rattle.plan_commands.specs.Images.{SinkState, IsImageAt}
use Rattle.plan_commands.specs.Showing.{IsShown, Shown, as_lines}
use Rattle.plan_commands.specs.Targets.{targets}
use Rattle.plan_commands.specs.Verdicts.{IsRejected}

-- The request of a run: the path of the image, the options, the names of the targets, and the file of the trace, if the
-- run is to have one.
pub record Wanted : Type 0 where
  pub path : Text
  pub limits : Limits
  pub names : List Text
  pub trace : Option Text

abbrev pub wanted : Text → Limits → List Text → Option Text → Wanted
wanted p l ns t = record { path = p; limits = l; names = ns; trace = t }

-- The run is opened with a well-shaped image that the source may give for the path, with these options, and with the
-- edges that make the files with these names.
pub record IsOpened (gives : FileContents) (w : Wanted) (o : Opened) : Type 0 where
  pub image : IsImageAt gives w.path o.parts
  pub shaped : IsWellShaped o.parts
  pub within : o.limits ≡ w.limits
  pub targets : targets o.parts w.names ≡ Ok o.targets

-- The status of a run that has ended: 0 if all wanted edges succeeded, otherwise 1.
abbrev pub status_of : Bool → ℕ
status_of true = 0
status_of false = 1

-- The status lines of a report.
abbrev pub lines_in : Parts → Report → List ℕ
lines_in p r = lines_of p (total_of p r.state.run_state.now) r.marks.items

-- If the run is to have a trace, its trace (options, targets and events) was written, `whole` or until a write of its
-- file failed.
abbrev pub Traces : Option Text → Limits → List ℕ → Report → (whole : Bool) → (old new : SinkState) → Type 0
Traces None limits edges r whole old new = (whole ≡ true) × (new ≡ old)
Traces (Some path) limits edges r whole old new = Writes whole old new (run_text limits edges r.journal)

-- The report of a run that has ended, or of a run that has stopped, if there is one.
abbrev pub report_in : Result Report LaneFault → Option Report
report_in (Ok report) = Some report
report_in (Err fault) = report_of fault

-- The states of the two sinks of the program: its output, and the file of a trace.
abbrev pub Written : Type 0
Written = SinkState × SinkState

-- A run that was opened in this way has ended. The rule of the world allows each reply in it. It was shown in this way.
pub record EndsPrinted (shown : Shown) (rule : Rule) (o : Opened) (r : Report) (old new : SinkState) : Type 0 where
  pub run : IsRunOf rule o r
  pub ended : has_ended r.state.run_state.now ≡ true
  pub printed : IsShown shown o.parts r None old new

-- A run of an image that the source may give has ended, its status lines were printed, and its trace was written.
pub record Runs (gives : FileContents) (rule : Rule) (w : Wanted) (old new : Written) (status : ℕ) : Type 0 where
  pub opened : Opened
  pub is : IsOpened gives w opened
  pub report : Report
  pub ends : EndsPrinted as_lines rule opened report old.0 new.0
  pub write_trace_of : Traces w.trace opened.limits opened.targets report true old.1 new.1
  pub answers : status ≡ status_of (all_done opened.parts report.state.run_state.now)

-- The reason why a text isn't printed, as the program prints it.
abbrev pub printed_print_fault : PrintFault → PlanFault
printed_print_fault print.Memory = no_memory
printed_print_fault print.Write = output_fault

-- The reason why a trace isn't written, as the program prints it.
abbrev pub printed_trace_fault : Option Text → PlanFault
printed_trace_fault (Some path) = file_fault path
printed_trace_fault None = no_memory

-- The image is accepted, but no edge of it makes one of the targets. The first such target is named.
abbrev pub IsUnknown : FileContents → Text → List Text → PlanFault → Type 0
IsUnknown gives path names fault = (p : Parts) × IsImageAt gives path p × IsWellShaped p × (targets p names ≡ Err fault)

abbrev pub opening_memory : PlanFault
opening_memory = record { number = 111; rest = [] }

-- No run begins: the image isn't accepted, a target is unknown, or memory ran out.
abbrev pub IsNotBegun : FileContents → PathSet → Wanted → PlanFault → Type 0
IsNotBegun gives missing w fault =
    IsRejected gives missing w.path fault ⊎ (IsUnknown gives w.path w.names fault ⊎ ((fault ≡ no_memory) ⊎ (fault ≡ opening_memory)))

-- A fault of lanes, as the program prints it.
abbrev pub printed_lane_fault : LaneFault → PlanFault
printed_lane_fault fault = record { number = number_of fault; rest = [] }

-- A run began, and lanes stopped early. The marks until then were shown in this way, or a prefix of them.
pub record LanesStop (shown : Shown) (rule : Rule) (o : Opened) (r : Report) (old new : SinkState) (fault : PlanFault) : Type 0 where
  pub run : IsRunOf rule o r
  pub stop : Option PrintFault
  pub printed : IsShown shown o.parts r stop old new
  pub stopped : LaneFault
  pub reports : report_of stopped ≡ Some r
  pub says : fault ≡ printed_lane_fault stopped

-- A run has ended, and it wasn't shown to its end.
pub record FailsToPrint (shown : Shown) (rule : Rule) (o : Opened) (r : Report) (old new : SinkState) (fault : PlanFault) : Type 0 where
  pub run : IsRunOf rule o r
  pub ended : has_ended r.state.run_state.now ≡ true
  pub stop : PrintFault
  pub printed : IsShown shown o.parts r (Some stop) old new
  pub says : (fault ≡ printed_print_fault stop) ⊎ (fault ≡ no_memory)

-- A run stopped. The trace of the work until then was written whole, or a write of its file failed.
pub record StopsEarly (gives : FileContents) (rule : Rule) (w : Wanted) (old new : Written) (fault : PlanFault) : Type 0 where
  pub opened : Opened
  pub is : IsOpened gives w opened
  pub report : Report
  pub stops : LanesStop as_lines rule opened report old.0 new.0 fault
  pub whole : Bool
  pub write_trace_of : Traces w.trace opened.limits opened.targets report whole old.1 new.1

-- The lines of a run weren't printed to the end. Its trace was written whole, or a write of its file failed.
pub record FailsToTell (gives : FileContents) (rule : Rule) (w : Wanted) (old new : Written) (fault : PlanFault) : Type 0 where
  pub opened : Opened
  pub is : IsOpened gives w opened
  pub report : Report
  pub fails : FailsToPrint as_lines rule opened report old.0 new.0 fault
  pub whole : Bool
  pub write_trace_of : Traces w.trace opened.limits opened.targets report whole old.1 new.1

-- A run has ended, its lines were printed, and a write of its trace's file failed.
pub record FailsToTrace (gives : FileContents) (rule : Rule) (w : Wanted) (old new : Written) (fault : PlanFault) : Type 0 where
  pub opened : Opened
  pub is : IsOpened gives w opened
  pub report : Report
  pub ends : EndsPrinted as_lines rule opened report old.0 new.0
  pub write_trace_of : Traces w.trace opened.limits opened.targets report false old.1 new.1
  pub says : (fault ≡ printed_trace_fault w.trace) ⊎ (fault ≡ no_memory)

-- The reasons why a run that began gives no status.
abbrev pub FailsToRun : FileContents → Rule → Wanted → (old new : Written) → PlanFault → Type 0
FailsToRun gives rule w old new fault =
    StopsEarly gives rule w old new fault ⊎ (FailsToTell gives rule w old new fault ⊎ FailsToTrace gives rule w old new fault)

-- ---- parts of a run

-- If the run is to have a trace, its events can be read.
abbrev pub IsKeptFor : Option Text → Report → Type 0
IsKeptFor None r = Unit {0}
IsKeptFor (Some path) r = r.kept ≡ Some r.journal

-- The status lines of a run that has ended were printed, and the result is its status. Or they weren't printed, and the
-- result is the fault.
abbrev pub Tells : Parts → Report → (old new : SinkState) → Result ℕ PlanFault → Type 0
Tells p r old new (Ok status) = Prints (lines_in p r) None old new × (status ≡ status_of (all_done p r.state.run_state.now))
Tells p r old new (Err fault) = (stop : PrintFault) × Prints (lines_in p r) (Some stop) old new × ((fault ≡ printed_print_fault stop) ⊎ (fault ≡ no_memory))

-- The trace of a run was written whole, or a write of its file failed.
abbrev pub WritesTrace : Option Text → Limits → List ℕ → Report → (old new : SinkState) → Result Unit PlanFault → Type 0
WritesTrace trace limits edges r old new (Ok done) = Traces trace limits edges r true old new
WritesTrace trace limits edges r old new (Err fault) = Traces trace limits edges r false old new × ((fault ≡ printed_trace_fault trace) ⊎ (fault ≡ no_memory))

-- The first of the two faults, or the status if there is no fault.
abbrev pub both : Result ℕ PlanFault → Result Unit PlanFault → Result ℕ PlanFault
both (Ok status) (Err fault) = Err fault
both told written = told

-- The status lines and the trace of a run that has ended were written, each whole or up to a fault.
abbrev pub TellsAll : Option Text → Parts → Limits → List ℕ → Report → (old new : Written) → Result ℕ PlanFault → Type 0
TellsAll trace p limits edges r old new result =
    (told : Result ℕ PlanFault) × (written : Result Unit PlanFault) × Tells p r old.0 new.0 told × WritesTrace trace limits edges r old.1 new.1 written × (result ≡ both told written)

-- The status lines and the trace of a run that has stopped were written, each whole or up to a fault.
abbrev pub TellsSome : Option Text → Parts → Limits → List ℕ → Report → (old new : Written) → Type 0
TellsSome trace p limits edges r old new =
    (stop : Option PrintFault) × (whole : Bool) × Prints (lines_in p r) stop old.0 new.0 × Traces trace limits edges r whole old.1 new.1
