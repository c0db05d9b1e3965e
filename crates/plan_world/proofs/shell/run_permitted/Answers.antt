use Rattle.plan_world.proofs.AnswerLemmas.{has_run}
use Rattle.plan_world.proofs.shell.run_permitted.Goals as goal

pub returns-then-console : goal.returns-then-console
returns-then-console g c =
    has_run g.S.Shells.ended c.in_ok-shell.shell.shell c.args.permit.command c.names-records.result.now c.run_on_terminal.result c.in_ok-shell.ensures.shell c.run_on_terminal.ensures
