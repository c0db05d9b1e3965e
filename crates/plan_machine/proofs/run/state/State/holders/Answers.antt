use Rattle.std.proofs.Common.{ap, ◌∙◌}
use Rattle.plan_machine.specs.Kept.{Running}
use Rattle.plan_machine.proofs.KeptLemmas.{holders_are}
use Rattle.plan_machine.proofs.run.state.State.holders.Goals as goal

pub returns : goal.returns
returns c =
    let r = c.args.self.now in
    ap (λ (x : Running). x.schedule.counts.holders) c.self.view_is ∙ holders_are c.args._image.now r.run_state.now r.plan r.schedule c.requires
