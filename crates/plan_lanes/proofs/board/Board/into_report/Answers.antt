use Rattle.std.proofs.Common.{◌∙◌, ap, List, sym, subst}
use Rattle.plan_machine.specs.declared.event.Event.{Event}
use Rattle.plan_lanes.specs.declared.board.Report.{Report}
use Rattle.plan_lanes.specs.Boards.{IsKept}
use Rattle.plan_lanes.specs.Progress.{progress}
use Rattle.plan_lanes.proofs.ReportLemmas.{MachineLaws, run_so}
use Rattle.plan_lanes.proofs.board.Board.into_report.Goals as goal

pub returns-clause-run : goal.returns-clause-run
returns-clause-run g c =
    let b = c.self.inside in
    let r : Report = record { state = b.state; journal = c.finish-journal.result.0; kept = c.finish-journal.result.1; marks = b.marks } in
    let laws : MachineLaws = record { wrong = c.never_wrong.ensures; orderly = c.marks_are_orderly.ensures; budget = c.stays_in_budget.ensures; frugal = c.depfiles_are_frugal.ensures } in
    run_so g.W.World.allows b.numbers.items b.image.now b.targets.items r c.args.self
    (subst (λ (l : List Event). IsKept g.W.World.allows b.numbers.items b.state (progress b.image.now b.targets.items b.state.run_state l b.marks.items)) (sym c.finish-journal.ensures.journal) c.self.invariant)
    (ap (λ (l : List Event). progress b.image.now b.targets.items b.state.run_state l b.marks.items) c.finish-journal.ensures.journal ∙ c.self.view_is) c.image-tables.ensures.shaped laws
