use Rattle.std.proofs.Common.{◌≡◌, Some, sym, subst}
use Rattle.std.specs.Prelude.{slice_get}
use Rattle.plan_verify.specs.Turn.{Local}
use Rattle.plan_machine.specs.State.{Active}
use Rattle.plan_machine.specs.Step.{answer_of}
use Rattle.plan_machine.specs.Applying.{CanTurn}
use Rattle.plan_machine.specs.Hearing.{CanHear}
use Rattle.plan_machine.specs.Kept.{Running}
use Rattle.plan_machine.proofs.run.state.State.change.Goals as goal

pub step-requires-clause-turns : goal.step-requires-clause-turns
step-requires-clause-turns c =
    subst (λ (r : Running). (l : Local) → slice_get r.run_state.now.edges c.in-Step.edge ≡ Some (Active l) → CanTurn c.args.image.now r.run_state.now.slots c.in-Step.edge l) (sym c.self.view_is)
    (λ l at. c.requires.turns c.in-Step.edge l at)

pub hear-requires-clause-hears : goal.hear-requires-clause-hears
hear-requires-clause-hears c =
    subst (λ (r : Running). (l : Local) → slice_get r.run_state.now.edges c.in-Reply.edge ≡ Some (Active l) → CanHear c.args.image.now c.in-Reply.edge (answer_of c.in-Reply.reply) l) (sym c.self.view_is)
    (λ l at. c.requires.hears c.in-Reply.edge (answer_of c.in-Reply.reply) l at)
