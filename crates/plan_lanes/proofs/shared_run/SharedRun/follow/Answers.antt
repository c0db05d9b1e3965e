use Rattle.plan_lanes.proofs.SharedRunLemmas.{shared_run_goes}
use Rattle.plan_lanes.proofs.shared_run.SharedRun.follow.Goals as goal

pub invariant_of-self : goal.invariant_of-self
invariant_of-self g c =
    shared_run_goes c.marks_may_come.ensures.shows g.J.RunBrand.run g.J.RunBrand.feed c.self.inside.board c.follow-followed.new.self c.self.inside.line_progress c.follow-followed.ensures.goes c.self.invariant
