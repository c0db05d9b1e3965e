use Rattle.plan_schedule.specs.declared.schedule.picking.Pick.{Pick}
use Rattle.plan_schedule.specs.Picking.{IsEnabled, StepsFirst, UnbegunStays}
use Rattle.plan_schedule.proofs.PickLemmas.{any_first, none_enabled, none_then, some_any}
use Rattle.plan_schedule.proofs.schedule.Schedule.pick.Goals as goal

pub returns-in-None-pick_at_take-clause-none : goal.returns-in-None-pick_at_take-clause-none
returns-in-None-pick_at_take-clause-none c =
    let b = c.args.self.now in
    let plan = c.args.plan.now in
    none_then c.pick_unbegun.result (UnbegunStays b c.args.keep) ((pick : Pick) → IsEnabled plan b.phases.items c.args.jobs c.args.keep pick → ⊥) c.pick_unbegun.ensures.none
    (none_enabled plan b c.args.jobs c.args.keep c.requires.plan c.requires.schedule c.in-None.ensures.none c.in-None-pick_at_take.ensures.none)

pub returns-in-None-pick_at_take-clause-steps : goal.returns-in-None-pick_at_take-clause-steps
returns-in-None-pick_at_take-clause-steps c =
    let b = c.args.self.now in
    let plan = c.args.plan.now in
    some_any c.pick_unbegun.result (λ pick. StepsFirst plan b.phases.items c.args.jobs c.args.keep pick)
    (λ x. any_first plan b c.args.jobs c.args.keep x c.requires.plan c.requires.schedule c.in-None.ensures.none c.in-None-pick_at_take.ensures.none)
