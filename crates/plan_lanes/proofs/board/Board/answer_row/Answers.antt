use Rattle.plan_machine.specs.declared.event.Event.TheVariants.{Reply as Hear}
use Rattle.plan_lanes.proofs.BatchLemmas.{goes_on}
use Rattle.plan_lanes.proofs.LocalRunLemmas.{goes_one}
use Rattle.plan_lanes.proofs.board.Board.answer_row.Goals as goal

pub returns-in_ok-answer_to-in-Some-clause-goes : goal.returns-in_ok-answer_to-in-Some-clause-goes
returns-in_ok-answer_to-in-Some-clause-goes g c =
    goes_on c.args.self.now c.take_row.new.self c.answer_to.new.self c.take_row.ensures.goes
    (goes_one c.take_row.new.self c.answer_to.new.self (Hear c.edge-edge.result c.in-Some.reply) c.in_ok-answer_to-in-Some.field-0 c.in_ok-answer_to-in-Some.ensures.ok.0)
