use Rattle.std.proofs.Common.{ap, ◌∙◌}
use Rattle.std.specs.Prelude.{◌==◌}
use Rattle.plan_machine.specs.Kept.{Running}
use Rattle.plan_machine.proofs.KeptLemmas.{ended_is}
use Rattle.plan_machine.proofs.run.state.State.ended.Goals as goal

pub returns : goal.returns
returns c p is =
    let r = c.args.self.now in
    ap (λ (x : Running). x.schedule.counts.open_edges == 0) c.self.view_is ∙ ended_is p r.run_state.now r.plan r.schedule is.kept
