use Rattle.plan_lanes.proofs.SharedRunLemmas.{shared_run_goes}
use Rattle.plan_lanes.proofs.shared_run.SharedRun.answer_row.Goals as goal

pub invariant_of-self : goal.invariant_of-self
invariant_of-self g c =
    shared_run_goes c.marks_may_come.ensures.shows g.J.RunBrand.run g.J.RunBrand.feed c.self.inside.board c.answer_row-answered.new.self c.self.inside.line_progress c.answer_row-answered.ensures.goes c.self.invariant
