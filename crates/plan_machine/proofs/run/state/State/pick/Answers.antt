use Rattle.std.proofs.Common.{◌≡◌, ◌<◌, ℕ, true, sym, subst, arith}
use Rattle.plan_schedule.specs.declared.schedule.picking.Pick.{Pick}
use Rattle.plan_schedule.specs.Picking.{IsEnabled as CanPick, StepsFirst as FirstSteps}
use Rattle.std.specs.Prelude.{◌⊎◌}
use Rattle.plan_machine.specs.declared.event.Event.{Event}
use Rattle.plan_machine.specs.Depfile.{depfile}
use Rattle.plan_machine.specs.Kept.{IsStateOf, Running}
use Rattle.plan_machine.specs.NeverStuck.{Awaits, is_own}
use Rattle.plan_machine.specs.State.{has_ended}
use Rattle.plan_machine.specs.Picking.{IsEnabled, StepsFirst}
use Rattle.plan_machine.proofs.NeverStuckLemmas.{never_stuck}
use Rattle.plan_machine.proofs.PickLemmas.{none_picked, none_stuck, picked, step_first}
use Rattle.plan_machine.proofs.StateLemmas.{state_stands}
use Rattle.plan_machine.proofs.run.state.State.pick.Goals as goal

pub returns-in-Some-clause-enabled : goal.returns-in-Some-clause-enabled
returns-in-Some-clause-enabled c =
    let r : Running = record { run_state = c.self.inside.machine; plan = c.self.inside.plan; schedule = c.self.inside.schedule; total = c.self.inside.total } in
    let p = c.args.image.now in
    let laws = c.turn_laws.ensures in
    let is : IsStateOf p r = subst (IsStateOf p) (sym c.self.view_is) c.requires in
    let shaped = c.image-tables.ensures.shaped in
    let stands = state_stands laws p shaped r is in
    let jobs : 0 < r.run_state.limits.jobs = omega (arith, c.jobs-jobs.ensures.some, c.jobs-jobs.ensures.same) in
    let x = c.in-Some.pick in
    let phases = r.schedule.phases.items in
    let can : CanPick r.plan phases r.run_state.limits.jobs r.run_state.limits.keep x =
    subst (λ (n : ℕ). CanPick r.plan phases n r.run_state.limits.keep x) c.jobs-jobs.ensures.same (subst (λ (n : ℕ). CanPick r.plan phases c.jobs-jobs.result n x) c.keep-keep.ensures c.in-Some.ensures.some) in
    subst (λ (g : Running). IsEnabled p g.run_state c.event_of.result) c.self.view_is
    (subst (IsEnabled p r.run_state) (sym c.event_of.ensures) (picked p r.run_state r.plan r.schedule is.kept laws shaped jobs stands x can))

pub returns-in-Some-clause-steps : goal.returns-in-Some-clause-steps
returns-in-Some-clause-steps c =
    let r : Running = record { run_state = c.self.inside.machine; plan = c.self.inside.plan; schedule = c.self.inside.schedule; total = c.self.inside.total } in
    let p = c.args.image.now in
    let laws = c.turn_laws.ensures in
    let is : IsStateOf p r = subst (IsStateOf p) (sym c.self.view_is) c.requires in
    let shaped = c.image-tables.ensures.shaped in
    let stands = state_stands laws p shaped r is in
    let jobs : 0 < r.run_state.limits.jobs = omega (arith, c.jobs-jobs.ensures.some, c.jobs-jobs.ensures.same) in
    let x = c.in-Some.pick in
    let phases = r.schedule.phases.items in
    let first : FirstSteps r.plan phases r.run_state.limits.jobs r.run_state.limits.keep x =
    subst (λ (n : ℕ). FirstSteps r.plan phases n r.run_state.limits.keep x) c.jobs-jobs.ensures.same (subst (λ (n : ℕ). FirstSteps r.plan phases c.jobs-jobs.result n x) c.keep-keep.ensures c.in-Some.ensures.steps) in
    subst (λ (g : Running). StepsFirst p g.run_state c.event_of.result) c.self.view_is
    (subst (StepsFirst p r.run_state) (sym c.event_of.ensures) (step_first p r.run_state r.plan r.schedule is.kept laws shaped jobs stands x first))

pub returns-in-None-clause-none : goal.returns-in-None-clause-none
returns-in-None-clause-none c =
    let r : Running = record { run_state = c.self.inside.machine; plan = c.self.inside.plan; schedule = c.self.inside.schedule; total = c.self.inside.total } in
    let p = c.args.image.now in
    let laws = c.turn_laws.ensures in
    let is : IsStateOf p r = subst (IsStateOf p) (sym c.self.view_is) c.requires in
    let shaped = c.image-tables.ensures.shaped in
    let stands = state_stands laws p shaped r is in
    let jobs : 0 < r.run_state.limits.jobs = omega (arith, c.jobs-jobs.ensures.some, c.jobs-jobs.ensures.same) in
    let phases = r.schedule.phases.items in
    let none : (x : Pick) → CanPick r.plan phases r.run_state.limits.jobs r.run_state.limits.keep x → ⊥ =
    subst (λ (n : ℕ). (x : Pick) → CanPick r.plan phases n r.run_state.limits.keep x → ⊥) c.jobs-jobs.ensures.same
    (subst (λ (n : ℕ). (x : Pick) → CanPick r.plan phases c.jobs-jobs.result n x → ⊥) c.keep-keep.ensures c.in-None.ensures.none) in
    subst (λ (g : Running). (event : Event) → is_own event ≡ true → IsEnabled p g.run_state event → ⊥) c.self.view_is
    (none_picked p r.run_state r.plan r.schedule is.kept laws shaped jobs stands none)

pub returns-in-None-clause-waits : goal.returns-in-None-clause-waits
returns-in-None-clause-waits c =
    let r : Running = record { run_state = c.self.inside.machine; plan = c.self.inside.plan; schedule = c.self.inside.schedule; total = c.self.inside.total } in
    let p = c.args.image.now in
    let laws = c.turn_laws.ensures in
    let is : IsStateOf p r = subst (IsStateOf p) (sym c.self.view_is) c.requires in
    let shaped = c.image-tables.ensures.shaped in
    let stands = state_stands laws p shaped r is in
    let jobs : 0 < r.run_state.limits.jobs = omega (arith, c.jobs-jobs.ensures.some, c.jobs-jobs.ensures.same) in
    let phases = r.schedule.phases.items in
    let none : (x : Pick) → CanPick r.plan phases r.run_state.limits.jobs r.run_state.limits.keep x → ⊥ =
    subst (λ (n : ℕ). (x : Pick) → CanPick r.plan phases n r.run_state.limits.keep x → ⊥) c.jobs-jobs.ensures.same
    (subst (λ (n : ℕ). (x : Pick) → CanPick r.plan phases c.jobs-jobs.result n x → ⊥) c.keep-keep.ensures c.in-None.ensures.none) in
    subst (λ (g : Running). (has_ended g.run_state.now ≡ true) ⊎ Awaits g.run_state.now) c.self.view_is
    (none_stuck p r.run_state (none_picked p r.run_state r.plan r.schedule is.kept laws shaped jobs stands none)
    (never_stuck laws depfile p shaped r.run_state.limits jobs is.targets is.events is.marks r.run_state.now is.reached))
