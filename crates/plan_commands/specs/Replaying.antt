-- The behavior of `replay IMG TRACE`.
use Rattle.std.specs.Prelude.{◌≡◌, ◌≢◌, ◌⊎◌, ℕ, ◌+◌, ◌≤◌, true, List, ◌++◌, length, Some, Ok, Err, if◌then◌else◌}
use Rattle.plan_text.specs.Sinks.{Writes}
use Rattle.plan_scope.specs.Scopes.{Text}
use Rattle.plan_scope.specs.Loading.{FileContents, PathSet}
use Rattle.plan_image.specs.declared.image.Parts.{Parts}
use Rattle.plan_verify.specs.Budget.{image_budget}
use Rattle.plan_verify.specs.Turn.{Flaw}
use Rattle.plan_verify.specs.WellShaped.{IsWellShaped}
use Rattle.plan_machine.specs.declared.event.Event.{Event}
use Rattle.plan_machine.specs.declared.event.Mark.{Mark}
use Rattle.plan_machine.specs.declared.run.refused.Refused.{Refused}
use Rattle.plan_machine.specs.Depfile.{depfile}
use Rattle.plan_machine.specs.InBudget.{all_bytes}
use Rattle.plan_machine.specs.Orderly.{IsOrderly}
use Rattle.plan_machine.specs.Replaying.{IsReplayFault}
use Rattle.plan_machine.specs.Runs.{Reached}
use Rattle.plan_machine.specs.State.{State}
use Rattle.plan_machine.specs.Step.{Wrong, step}
use Rattle.plan_machine.specs.Total.{total_of}
use Rattle.plan_status.specs.declared.fault.PrintFault.{PrintFault}
use Rattle.plan_status.specs.declared.fault.PrintFault.TheVariants as print
use Rattle.plan_status.specs.Lines.{lines_of}
use Rattle.plan_status.specs.Outcomes.{all_done, outcomes_of}
use Rattle.plan_status.specs.Printing.{Prints}
use Rattle.plan_trace.specs.declared.trace.Trace.{Trace}
use Rattle.plan_trace.specs.declared.fault.TraceFault.TheVariants.{BadTrace}
use Rattle.plan_trace.specs.Reading.{read_of}
use Rattle.plan_printing.specs.declared.fault.PlanFault.{PlanFault}
use Rattle.plan_printing.specs.Faults.{no_memory, output_fault}
use Rattle.plan_commands.specs.Faults.{printed_refusal, trace_fault}
use Rattle.plan_commands.specs.Images.{HasNoFile, IsImageAt, SinkState}
use Rattle.plan_commands.specs.Verdicts.{IsRejected}

-- ---- traces

-- The source may give a text for the path that spells this trace.
abbrev pub IsTraceAt : FileContents → Text → Trace → Type 0
IsTraceAt gives path trace = (text : List ℕ) × gives path (Some text) × (read_of text ≡ Ok trace)

-- The source may give a text for the path that isn't a trace. The number of the line is printed.
abbrev pub IsNoTraceAt : FileContents → Text → PlanFault → Type 0
IsNoTraceAt gives path fault = (text : List ℕ) × (line : ℕ) × gives path (Some text) × (read_of text ≡ Err (BadTrace line)) × (fault ≡ trace_fault line)

-- The reasons why no trace is read.
abbrev pub LacksTrace : FileContents → PathSet → Text → PlanFault → Type 0
LacksTrace gives missing path fault = IsNoTraceAt gives path fault ⊎ (HasNoFile missing path fault ⊎ (fault ≡ no_memory))

-- ---- runs

-- The run of a trace of an image: the events lead from the start to this end and leave these marks. None of the events
-- went wrong, and no event can go wrong at the end. The marks are orderly, and the number of the events is bounded.
pub record IsRun (p : Parts) (trace : Trace) (marks : List Mark) (end : State) : Type 0 where
  pub reached : Reached depfile p trace.options trace.targets trace.events marks end
  pub safe : (event : Event) (flaw : Flaw) → step depfile p trace.options end event ≢ Wrong flaw
  pub orderly : IsOrderly p trace.options marks
  pub bounded : length trace.events ≤ image_budget p + all_bytes trace.events

-- The status lines of a run, followed by the outcome of each edge.
abbrev pub run_text : Parts → List Mark → State → List ℕ
run_text p marks end = lines_of p (total_of p end) marks ++ outcomes_of p end

-- The status of a run: 0 if all wanted edges succeeded, otherwise 1.
abbrev pub run_status : Parts → State → ℕ
run_status p end = if all_done p end then 0 else 1

-- ---- with a given image

-- The source may give a trace for the path. No write failed, and the sink took the status lines and outcomes of its
-- run.
pub record Tells (p : Parts) (gives : FileContents) (path : Text) (old new : SinkState) (status : ℕ) : Type 0 where
  pub trace : Trace
  pub marks : List Mark
  pub end : State
  pub given : IsTraceAt gives path trace
  pub run : IsRun p trace marks end
  pub written : Writes true old new (run_text p marks end)
  pub status_is : status ≡ run_status p end

-- The events of a trace aren't a run of this image. The place and the cause are printed.
abbrev pub TellsNoEvents : Parts → Trace → PlanFault → Type 0
TellsNoEvents p trace fault = (n : ℕ) × (refused : Refused) × IsReplayFault p trace.options trace.targets trace.events n refused × (fault ≡ printed_refusal n refused)

-- A trace that the source may give for the path has no run of this image.
abbrev pub TellsNoRun : Parts → FileContents → Text → PlanFault → Type 0
TellsNoRun p gives path fault = (trace : Trace) × IsTraceAt gives path trace × TellsNoEvents p trace fault

-- The reasons why there is no run to print.
abbrev pub LacksRun : Parts → FileContents → PathSet → Text → PlanFault → Type 0
LacksRun p gives missing path fault = LacksTrace gives missing path fault ⊎ TellsNoRun p gives path fault

abbrev pub printed_stop : PrintFault → PlanFault
printed_stop print.Write = output_fault
printed_stop print.Memory = no_memory

-- A write failed, or memory ran out, after a prefix of a text.
abbrev pub StopsTelling : List ℕ → (old new : SinkState) → PlanFault → Type 0
StopsTelling text old new fault = (stop : PrintFault) × Prints text (Some stop) old new × (fault ≡ printed_stop stop)

-- A write failed, or memory ran out, after a prefix of the status lines and outcomes.
pub record FailsToTell (p : Parts) (gives : FileContents) (path : Text) (old new : SinkState) (fault : PlanFault) : Type 0 where
  pub trace : Trace
  pub marks : List Mark
  pub end : State
  pub given : IsTraceAt gives path trace
  pub run : IsRun p trace marks end
  pub stopped : StopsTelling (run_text p marks end) old new fault

-- ---- the command

-- The first source may give a well-shaped image, and the second source may give a trace. No write failed, and the sink
-- took the status lines and outcomes of the run.
abbrev pub Replays : FileContents → Text → FileContents → Text → (old new : SinkState) → ℕ → Type 0
Replays images image traces trace old new status = (p : Parts) × IsImageAt images image p × IsWellShaped p × Tells p traces trace old new status

-- A well-shaped image has no run for the trace.
abbrev pub LacksRunOf : FileContents → Text → FileContents → PathSet → Text → PlanFault → Type 0
LacksRunOf images image traces missing trace fault = (p : Parts) × IsImageAt images image p × IsWellShaped p × LacksRun p traces missing trace fault

-- The reasons why nothing is printed. Faults of the image come before all others.
abbrev pub IsNotReplayed : FileContents → PathSet → Text → FileContents → PathSet → Text → PlanFault → Type 0
IsNotReplayed images no_image image traces no_trace trace fault = IsRejected images no_image image fault ⊎ LacksRunOf images image traces no_trace trace fault

-- A write failed, or memory ran out, and the status lines and outcomes weren't printed to the end.
abbrev pub FailsToReplay : FileContents → Text → FileContents → Text → (old new : SinkState) → PlanFault → Type 0
FailsToReplay images image traces trace old new fault = (p : Parts) × IsImageAt images image p × IsWellShaped p × FailsToTell p traces trace old new fault
