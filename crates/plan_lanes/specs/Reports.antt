-- The contents of a report.
use Rattle.std.specs.Prelude.{◌≡◌, ◌≢◌, ◌≤◌, ◌+◌, ℕ, Bool, List, None, Some, false, if◌then◌else◌, length}
use Rattle.plan_verify.specs.Budget.{image_budget}
use Rattle.plan_verify.specs.Turn.{Flaw}
use Rattle.plan_machine.specs.declared.event.Event.{Event}
use Rattle.plan_machine.specs.declared.event.Mark.{Mark}
use Rattle.plan_machine.specs.Depfile.{depfile}
use Rattle.plan_machine.specs.InBudget.{all_bytes}
use Rattle.plan_machine.specs.Kept.{IsStateOf}
use Rattle.plan_machine.specs.Orderly.{IsOrderly}
use Rattle.plan_machine.specs.Runs.{Reached}
use Rattle.plan_machine.specs.Step.{Wrong, step}
use Rattle.plan_machine.specs.Total.{total_of}
use Rattle.plan_machine.specs.Wanted.{any_outside}
use Rattle.plan_lanes.specs.declared.board.Report.{Report}
use Rattle.plan_lanes.specs.Journals.{Rule, IsAllowed}
use Rattle.plan_lanes.specs.Progress.{Opened}
use Rattle.plan_lanes.specs.ObservableMarks.{observable}

pub record IsRunOf (rule : Rule) (o : Opened) (r : Report) : Type 0 where
  -- the targets are edges of the image
  pub inside : any_outside o.parts o.targets ≡ false
  -- the journal runs from the opening state of this image, with these options and targets, to the reported state, and
  -- leaves these marks
  pub left : List Mark
  pub reached : Reached depfile o.parts o.limits o.targets r.journal left r.state.run_state.now
  -- the report has the observable ones of these marks
  pub marks : r.marks.items ≡ observable left
  -- the rule allows each reply in it for its question
  pub allowed : IsAllowed rule o.parts o.limits o.targets r.journal
  -- the state is a state of this image, with these options
  pub state : IsStateOf o.parts r.state
  pub limits : r.state.run_state.limits ≡ o.limits
  -- by the machine's laws, no event can go wrong in the state, the marks are orderly, and the number of events is at
  -- most the image's budget plus the bytes of dependencies
  pub safe : (event : Event) (flaw : Flaw) → step depfile o.parts o.limits r.state.run_state.now event ≢ Wrong flaw
  pub orderly : IsOrderly o.parts o.limits left
  pub bounded : length r.journal ≤ image_budget o.parts + all_bytes r.journal

-- The events of the report's journal can be read if and only if journals are kept.
abbrev pub IsKeptBy : Bool → Report → Type 0
IsKeptBy keeps r = r.kept ≡ (if keeps then Some r.journal else None)

-- In each run of this image, with these options and targets, n wanted edges have a command, in each state.
abbrev pub IsTotalOf : Rule → Opened → ℕ → Type 0
IsTotalOf rule o n = (r : Report) → IsRunOf rule o r → n ≡ total_of o.parts r.state.run_state.now
