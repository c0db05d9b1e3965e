use Rattle.std.proofs.Common.{◌≡◌, ◌<◌, ℕ, true, sym, subst, arith}
use Rattle.plan_schedule.specs.Picking.{IsEnabled as CanPick}
use Rattle.plan_machine.specs.declared.event.Event.{Event}
use Rattle.plan_machine.specs.Kept.{IsStateOf, Running}
use Rattle.plan_machine.specs.Picking.{IsEnabled, is_start}
use Rattle.plan_machine.proofs.PickLemmas.{picked, start_of}
use Rattle.plan_machine.proofs.StateLemmas.{state_stands}
use Rattle.plan_machine.proofs.run.state.State.pick_start.Goals as goal

pub returns-in-Some-clause-enabled : goal.returns-in-Some-clause-enabled
returns-in-Some-clause-enabled c =
    let r : Running = record { run_state = c.self.inside.machine; plan = c.self.inside.plan; schedule = c.self.inside.schedule; total = c.self.inside.total } in
    let p = c.args.image.now in
    let laws = c.turn_laws.ensures in
    let is : IsStateOf p r = subst (IsStateOf p) (sym c.self.view_is) c.requires in
    let shaped = c.image-tables.ensures.shaped in
    let stands = state_stands laws p shaped r is in
    let jobs : 0 < r.run_state.limits.jobs = omega (arith, c.jobs-jobs.ensures.some, c.jobs-jobs.ensures.same) in
    let x = c.in-Some.start in
    let phases = r.schedule.phases.items in
    let can : CanPick r.plan phases r.run_state.limits.jobs r.run_state.limits.keep x =
    subst (λ (n : ℕ). CanPick r.plan phases r.run_state.limits.jobs n x) c.keep-keep.ensures (c.in-Some.ensures.some.1 r.run_state.limits.jobs) in
    subst (λ (g : Running). IsEnabled p g.run_state c.event_of.result) c.self.view_is
    (subst (IsEnabled p r.run_state) (sym c.event_of.ensures) (picked p r.run_state r.plan r.schedule is.kept laws shaped jobs stands x can))

pub returns-in-Some-clause-start : goal.returns-in-Some-clause-start
returns-in-Some-clause-start c = subst (λ (event : Event). is_start event ≡ true) (sym c.event_of.ensures) (start_of c.in-Some.start c.in-Some.ensures.some.0)
