use Rattle.std.proofs.Common.{refl}
use Rattle.plan_machine.specs.Step.{answer_of}
use Rattle.plan_machine.proofs.HearingLemmas.{hear_active, hear_is}
use Rattle.plan_machine.proofs.RefusalLemmas.{hear_can}
use Rattle.plan_machine.proofs.run.machine.Machine.hear.Goals as goal

pub make_answer-requires-clause-active : goal.make_answer-requires-clause-active
make_answer-requires-clause-active c =
    let active = hear_active c.args.self.now c.args.edge c.is_under_way.result c.is_under_way.ensures c.if-not-is_under_way.false in
    (active.0, active.1, c.requires.hears active.0 active.1)

pub returns-clause-applied : goal.returns-clause-applied
returns-clause-applied c =
    hear_is c.args.image.now c.args.edge (answer_of c.args.reply) c.args.self.now c.make_answer.new.self c.in_ok-heard.heard c.in_ok-heard.ensures.ok c.args.reply c.settle_reply.result c.settle_reply.new.self refl c.settle_reply.ensures

pub returns-in_err-heard-clause-memory : goal.returns-in_err-heard-clause-memory
returns-in_err-heard-clause-memory c is =
    let active = hear_active c.args.self.now c.args.edge c.is_under_way.result c.is_under_way.ensures c.if-not-is_under_way.false in
    hear_can c.args.image.now c.args.self.now c.args.edge c.args.reply active.0 active.1 (c.in_err-heard.ensures.fits active.0 active.1)
