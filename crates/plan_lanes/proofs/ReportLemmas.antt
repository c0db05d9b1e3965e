-- What a report of a board says.
use Rattle.std.proofs.Common.{◌≡◌, ℕ, List, refl, subst}
use Rattle.plan_image.specs.declared.image.Parts.{Parts}
use Rattle.plan_verify.specs.Budget.{IsFrugal}
use Rattle.plan_verify.specs.WellShaped.{IsWellShaped}
use Rattle.plan_machine.specs.Depfile.{depfile}
use Rattle.plan_machine.specs.InBudget.{StaysInBudget}
use Rattle.plan_machine.specs.NeverWrong.{NeverWrong}
use Rattle.plan_machine.specs.Orderly.{MarksAreOrderly}
use Rattle.plan_lanes.specs.declared.board.Report.{Report}
use Rattle.plan_lanes.specs.Boards.{IsKept}
use Rattle.plan_lanes.specs.Journals.{Rule}
use Rattle.plan_lanes.specs.Progress.{Progress, progress}
use Rattle.plan_lanes.specs.Reports.{IsRunOf}

-- the laws of plan_machine, as their calls say them
pub record MachineLaws : Type 0 where
  pub wrong : NeverWrong
  pub orderly : MarksAreOrderly
  pub budget : StaysInBudget
  pub frugal : IsFrugal depfile

-- the report of a board
pub run_so : (rule : Rule) (numbers : List ℕ) (p : Parts) (targets : List ℕ) (r : Report) (b : Progress) → IsKept rule numbers r.state (progress p targets r.state.run_state r.journal r.marks.items)
    → progress p targets r.state.run_state r.journal r.marks.items ≡ b → IsWellShaped p → MachineLaws → IsRunOf rule b.opened r
run_so rule numbers p targets r b kept same shaped laws =
    let left = kept.journaled.left in
    let reached = kept.journaled.reached in
    let l = r.state.run_state.limits in
    subst (λ (w : Progress). IsRunOf rule w.opened r) same
    (record {
      inside = kept.inside;
      left = left;
      reached = reached;
      marks = kept.journaled.kept;
      allowed = kept.journaled.allowed;
      state = kept.state;
      limits = refl;
      safe = laws.wrong depfile p shaped l targets r.journal left r.state.run_state.now reached;
      orderly = laws.orderly depfile p shaped l targets r.journal left r.state.run_state.now reached;
      bounded = laws.budget depfile laws.frugal p shaped l targets r.journal left r.state.run_state.now reached;
    })
