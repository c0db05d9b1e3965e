use Rattle.plan_machine.proofs.HearingLemmas.{hear_active}
use Rattle.plan_machine.proofs.LocalRunLemmas.{can_local_step, ran_locally_runs}
use Rattle.plan_machine.proofs.run.machine.Machine.run_local_steps.Goals as goal

pub make_local_steps-requires-clause-active : goal.make_local_steps-requires-clause-active
make_local_steps-requires-clause-active c =
    let active = hear_active c.args.self.now c.args.edge c.is_under_way.result c.is_under_way.ensures c.if-not-is_under_way.false in
    (active.0, active.1, can_local_step c.args.image.now c.args.edge c.args.self.now active.0 active.1 c.requires.turns)

pub returns-clause-runs : goal.returns-clause-runs
returns-clause-runs c = ran_locally_runs c.args.image.now c.args.edge c.args.self.now c.make_local_steps.new.self c.make_local_steps.result c.make_local_steps.ensures.ran_locally
