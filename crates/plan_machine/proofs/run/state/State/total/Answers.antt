use Rattle.std.proofs.Common.{ap, ◌∙◌}
use Rattle.plan_machine.specs.Kept.{Running}
use Rattle.plan_machine.proofs.run.state.State.total.Goals as goal

pub returns : goal.returns
returns c p is = ap (λ (x : Running). x.total) c.self.view_is ∙ is.counted
