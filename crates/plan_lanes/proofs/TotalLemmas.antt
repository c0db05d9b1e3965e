-- How many commands the runs of an image may have. Serves src/board.rt.
use Rattle.std.proofs.Common.{◌≡◌, ℕ, List, sym, ap, ◌∙◌}
use Rattle.plan_image.specs.declared.image.Parts.{Parts}
use Rattle.plan_machine.specs.Depfile.{depfile}
use Rattle.plan_machine.specs.Kept.{Running}
use Rattle.plan_machine.specs.Limits.{Limits}
use Rattle.plan_machine.specs.declared.event.Event.{Event}
use Rattle.plan_machine.specs.declared.event.Mark.{Mark}
use Rattle.plan_machine.specs.Runs.{Reached}
use Rattle.plan_machine.specs.State.{State}
use Rattle.plan_machine.specs.Total.{total_of}
use Rattle.plan_lanes.specs.Boards.{IsKept}
use Rattle.plan_lanes.specs.Journals.{Rule}
use Rattle.plan_lanes.specs.Progress.{Progress}
use Rattle.plan_lanes.specs.Reports.{IsTotalOf}
use Rattle.plan_lanes.proofs.LocalRunLemmas.{total_runs}
use Rattle.plan_lanes.proofs.RunLemmas.{opens_same}

-- two states that are reached from the opening of an image
total_reached : (p : Parts) (limits : Limits) (targets : List ℕ) (xs ys : List Event) (ms ns : List Mark) (s t : State)
    → Reached depfile p limits targets xs ms s → Reached depfile p limits targets ys ns t → total_of p s ≡ total_of p t
total_reached p limits targets xs ys ms ns s t one other =
    total_runs p limits one.start s xs ms one.run
    ∙ (ap (λ (u : State). total_of p u) (opens_same p targets one.start other.start one.opens other.opens)
    ∙ sym (total_runs p limits other.start t ys ns other.run))

-- what a board counts is so in each report of its run
pub total_for_all : (rule : Rule) (numbers : List ℕ) (running : Running) (b : Progress) → IsKept rule numbers running b → IsTotalOf rule b.opened (total_of b.opened.parts b.state)
total_for_all rule numbers running b kept = λ r run.
    total_reached b.opened.parts b.opened.limits b.opened.targets b.journal r.journal kept.journaled.left run.left b.state r.state.run_state.now kept.journaled.reached run.reached
