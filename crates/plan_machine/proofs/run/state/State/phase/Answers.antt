use Rattle.std.proofs.Common.{◌≡◌, List, Some, None, ap, sym, ◌∙◌}
use Rattle.std.specs.Prelude.{slice_get}
use Rattle.plan_schedule.specs.declared.phase.Phase.{Phase}
use Rattle.plan_machine.specs.Kept.{Running}
use Rattle.plan_machine.proofs.KeptLemmas.{phase_known, phase_unknown}
use Rattle.plan_machine.proofs.run.state.State.phase.Goals as goal

pub returns-in-Some : goal.returns-in-Some
returns-in-Some c =
    let r = c.args.self.now in
    let same : c.deref.result.now ≡ r.schedule.phases.items = c.deref.ensures.value ∙ ap (λ (x : Running). x.schedule.phases.items) c.self.view_is in
    let there : slice_get r.schedule.phases.items c.args.edge ≡ Some c.in-Some.phase =
    sym (ap (λ (phases : List Phase). slice_get phases c.args.edge) same) ∙ sym c.phase_at.ensures ∙ c.in-Some.is in
    phase_known c.args._image.now r.run_state.now r.plan r.schedule c.requires c.args.edge c.in-Some.phase there

pub returns-in-None : goal.returns-in-None
returns-in-None c =
    let r = c.args.self.now in
    let same : c.deref.result.now ≡ r.schedule.phases.items = c.deref.ensures.value ∙ ap (λ (x : Running). x.schedule.phases.items) c.self.view_is in
    let there : slice_get r.schedule.phases.items c.args.edge ≡ None =
    sym (ap (λ (phases : List Phase). slice_get phases c.args.edge) same) ∙ sym c.phase_at.ensures ∙ c.in-None.is in
    phase_unknown c.args._image.now r.run_state.now r.plan r.schedule c.requires c.args.edge there
