use Rattle.std.proofs.Common.{◌≡◌, Some, sym, subst}
use Rattle.std.specs.Prelude.{slice_get}
use Rattle.plan_verify.specs.Turn.{Local, turn}
use Rattle.plan_machine.specs.Kept.{Running}
use Rattle.plan_machine.specs.State.{Active}
use Rattle.plan_machine.specs.Working.{Works}
use Rattle.plan_machine.proofs.run.state.State.asked_by.Goals as goal

pub step_request-requires : goal.step_request-requires
step_request-requires c =
    subst (λ (r : Running). (l : Local) → slice_get r.run_state.now.edges c.in-Step.edge ≡ Some (Active l) → Works (turn c.args.image.now c.in-Step.edge r.run_state.now.slots l)) (sym c.self.view_is)
    (λ l at. (c.requires.turns c.in-Step.edge l at).works)
