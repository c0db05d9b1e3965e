use Rattle.plan_world.proofs.AnswerLemmas.{by_shell}
use Rattle.plan_world.proofs.shell.run_shell.Goals as goal

pub returns-clause-ran : goal.returns-clause-ran
returns-clause-ran g c =
    by_shell g.S.Shells.ended c.args.permit.command c.run_permitted-ended.result c.reply_of_shell.result c.run_permitted-ended.ensures c.reply_of_shell.ensures.run c.reply_of_shell.ensures.not
