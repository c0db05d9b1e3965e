use Rattle.plan_machine.specs.declared.event.Mark.TheVariants.{Moved}
use Rattle.plan_machine.proofs.Applies.{settle_within, step_active, step_is}
use Rattle.plan_machine.proofs.run.machine.Machine.step.Goals as goal

pub make_turn-requires-clause-active : goal.make_turn-requires-clause-active
make_turn-requires-clause-active c =
    let active = step_active c.args.image.now c.args.self.now c.args.edge c.args.may c.requires.may c.if-not-may.false in
    (active.0, active.1, c.requires.turns active.0 active.1)

pub settle-requires : goal.settle-requires
settle-requires c =
    settle_within c.args.image.now c.args.edge c.args.self.now c.make_turn.new.self c.make_turn.new.self c.in_ok-turned.turned (Moved c.args.edge) c.in_ok-turned.ensures.ok

pub returns-clause-applied : goal.returns-clause-applied
returns-clause-applied c =
    step_is c.args.image.now c.args.edge c.args.self.now c.make_turn.new.self c.settle.new.self c.in_ok-turned.turned c.settle.result c.in_ok-turned.ensures.ok
    c.args.may c.requires.may c.if-not-may.false c.settle.ensures
