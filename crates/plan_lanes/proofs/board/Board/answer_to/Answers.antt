use Rattle.std.proofs.Common.{refl}
use Rattle.plan_machine.specs.declared.event.Event.TheVariants.{Reply as Hear}
use Rattle.plan_lanes.proofs.LocalRunLemmas.{goes_none, goes_result}
use Rattle.plan_lanes.proofs.board.Board.answer_to.Goals as goal

pub returns-then-not-is_open-clause-goes : goal.returns-then-not-is_open-clause-goes
returns-then-not-is_open-clause-goes g c = goes_none c.args.self.now c.args.self.now refl

pub returns-clause-goes : goal.returns-clause-goes
returns-clause-goes g c = goes_result c.args.self.now c.record.new.self (Hear c.args.edge c.args.reply) c.record.result c.record.ensures.ok c.record.ensures.err
