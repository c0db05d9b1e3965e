use Rattle.std.proofs.Common.{sym, subst}
use Rattle.plan_machine.specs.Kept.{IsBehind, Running}
use Rattle.plan_machine.proofs.KeptLemmas.{caught_up, here_is, was_not_ill, was_unwell}
use Rattle.plan_machine.proofs.run.state.State.reschedule.Goals as goal

pub change-requires : goal.change-requires
change-requires c =
    let r : Running = record { run_state = c.self.inside.machine; plan = c.self.inside.plan; schedule = c.self.inside.schedule; total = c.self.inside.total } in
    let behind : IsBehind c.args.image.now r c.args.edge = subst (λ (x : Running). IsBehind c.args.image.now x c.args.edge) (sym c.self.view_is) c.requires in
    record {
      plan = behind.kept.plan_is.good;
      here = here_is c.args.image.now r c.args.edge behind;
      schedule = behind.kept.fit;
      well = was_unwell c.args.image.now r c.args.edge behind;
      ill = was_not_ill c.args.image.now r c.args.edge behind;
    }

pub returns-clause-kept : goal.returns-clause-kept
returns-clause-kept c =
    let r : Running = record { run_state = c.self.inside.machine; plan = c.self.inside.plan; schedule = c.self.inside.schedule; total = c.self.inside.total } in
    let behind : IsBehind c.args.image.now r c.args.edge = subst (λ (x : Running). IsBehind c.args.image.now x c.args.edge) (sym c.self.view_is) c.requires in
    caught_up c.args.image.now r c.args.edge behind c.change.new.self c.phase-phase.result c.change.ensures.schedule c.change.ensures.phases c.phase-phase.ensures
