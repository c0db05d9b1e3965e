use Rattle.plan_machine.specs.declared.event.Event.TheVariants.{Reply as Hear}
use Rattle.plan_lanes.specs.Boards.{IsOpen}
use Rattle.plan_lanes.specs.Questions.{shown}
use Rattle.plan_lanes.proofs.SharedRunLemmas.{answered_so}
use Rattle.plan_lanes.proofs.shared_run.SharedRun.answer.Goals as goal

pub invariant_of-self : goal.invariant_of-self
invariant_of-self g c =
    answered_so c.marks_may_come.ensures.shows g.J.RunBrand.run g.J.RunBrand.feed c.self.inside.board c.answer_to-answered.new.self (Hear c.args.edge c.args.reply)
    (IsOpen c.self.inside.board c.args.edge c.args.question.now.number (shown c.args.question.now.request)) c.answer_to-answered.result c.self.inside.line_progress
    c.answer_to-answered.ensures.ok c.answer_to-answered.ensures.err c.self.invariant
