-- How runs are shown: the text that is printed for their marks.
use Rattle.std.specs.Prelude.{◌≡◌, ℕ, List, Option}
use Rattle.plan_image.specs.declared.image.Parts.{Parts}
use Rattle.plan_machine.specs.declared.event.Mark.{Mark}
use Rattle.plan_machine.specs.Total.{total_of}
use Rattle.plan_status.specs.Formats.{HasPrinted}
use Rattle.plan_status.specs.Lines.{lines_of}
use Rattle.plan_status.specs.Printing.{Prints}
use Rattle.plan_status.specs.declared.fault.PrintFault.{PrintFault}
use Rattle.plan_lanes.specs.declared.board.Report.{Report}
use Rattle.plan_commands.specs.Images.{SinkState}

-- The text that is printed for the marks of a run of an image. The number is the total of command edges that may run.
-- Printing may have stopped for a reason.
abbrev pub Shown : Type 1
Shown = Parts → ℕ → List Mark → Option PrintFault → SinkState → SinkState → Type 0

-- Status lines are printed.
abbrev pub as_lines : Shown
as_lines p total marks stop old new = Prints (lines_of p total marks) stop old new

-- A text that the format allows for the marks is printed. `kept` is the part of the format that stays the same, such as
-- its style.
abbrev pub by_format : {F K : Type 0} → (F → K) → (F → Parts → ℕ → List Mark → List ℕ → Type 0) → K → Shown
by_format {F} kept tells k p total marks stop old new = (f : F) × (kept f ≡ k) × HasPrinted (tells f p total) marks stop old new

-- The marks of a report are shown.
abbrev pub IsShown : Shown → Parts → Report → Option PrintFault → SinkState → SinkState → Type 0
IsShown shown p r stop old new = shown p (total_of p r.state.run_state.now) r.marks.items stop old new
