use Rattle.std.proofs.Common.{subst}
use Rattle.plan_machine.specs.Depfile.{depfile}
use Rattle.plan_machine.specs.Kept.{Running}
use Rattle.plan_machine.specs.Runs.{Runs}
use Rattle.plan_machine.specs.LocalRuns.{moves_of, steps_of}
use Rattle.plan_machine.proofs.run.state.State.run_local_steps.Goals as goal

pub run_local_steps-requires-clause-turns : goal.run_local_steps-requires-clause-turns
run_local_steps-requires-clause-turns c n s run l at =
    c.requires.turns n s (subst (λ (r : Running). Runs depfile c.args.image.now r.run_state.limits r.run_state.now (steps_of c.args.edge n) (moves_of c.args.edge n) s) c.self.view_is run) l at
