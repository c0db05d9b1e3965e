-- The reasons why lanes return no complete run.
use Rattle.std.specs.Prelude.{◌≡◌, ℕ, true, false, Option, Some, None}
use Rattle.plan_machine.specs.declared.run.refused.Refused.TheVariants as refused
use Rattle.plan_machine.specs.Faults.{number_of as refusal_number}
use Rattle.plan_machine.specs.Wanted.{any_outside}
use Rattle.plan_lanes.specs.declared.board.Report.{Report}
use Rattle.plan_lanes.specs.declared.fault.LaneFault.{LaneFault}
use Rattle.plan_lanes.specs.declared.fault.LaneFault.TheVariants.{Opening, NotEnabled, NoMemory, NoLane, OtherBoard}
use Rattle.plan_lanes.specs.declared.shared_run.Stopped.{Stopped}
use Rattle.plan_lanes.specs.declared.shared_run.Stopped.TheVariants as stopped
use Rattle.plan_lanes.specs.Journals.{Rule}
use Rattle.plan_lanes.specs.Progress.{Opened}
use Rattle.plan_lanes.specs.Reports.{IsRunOf}

-- the run wasn't opened, for this reason of the machine; or it was opened, and this is the run so far
abbrev pub FaultReports : Rule → Opened → LaneFault → Type 0
FaultReports rule o (Opening refused.BadTarget) = any_outside o.parts o.targets ≡ true
FaultReports rule o (Opening refused.Memory) = any_outside o.parts o.targets ≡ false
FaultReports rule o (Opening refused.NotEnabled) = ⊥
FaultReports rule o (NotEnabled r) = IsRunOf rule o r
FaultReports rule o (NoMemory r) = IsRunOf rule o r
FaultReports rule o (NoLane r) = IsRunOf rule o r
FaultReports rule o (OtherBoard r) = IsRunOf rule o r

-- the report that comes with a fault
abbrev pub report_of : LaneFault → Option Report
report_of (Opening refused) = None
report_of (NotEnabled r) = Some r
report_of (NoMemory r) = Some r
report_of (NoLane r) = Some r
report_of (OtherBoard r) = Some r

-- the fault of a run that hasn't ended, by why its lanes stopped
abbrev pub fault_of : Stopped → Report → LaneFault
fault_of stopped.No r = OtherBoard r
fault_of stopped.Memory r = NoMemory r
fault_of stopped.Unfit r = NotEnabled r
fault_of stopped.NoLane r = NoLane r

abbrev pub number_of : LaneFault → ℕ
number_of (Opening refusal) = refusal_number refusal
number_of (NotEnabled r) = 110
number_of (NoMemory r) = 120
number_of (NoLane r) = 121
number_of (OtherBoard r) = 122
