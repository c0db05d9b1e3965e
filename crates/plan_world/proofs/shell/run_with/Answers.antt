use Rattle.plan_world.proofs.AnswerLemmas.{has_run}
use Rattle.plan_world.proofs.shell.run_with.Goals as goal

pub returns : goal.returns
returns g c =
    has_run g.S.Shells.ended c.in_ok-shell.shell.shell c.args.permit.command c.args.records.now c.run_aside.result c.in_ok-shell.ensures.shell c.run_aside.ensures
