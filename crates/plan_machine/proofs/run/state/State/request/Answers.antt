use Rattle.std.proofs.Common.{sym, subst, ap, ◌∙◌}
use Rattle.plan_image.specs.declared.image.Parts.{Parts}
use Rattle.plan_verify.specs.Turn.{turn}
use Rattle.plan_machine.specs.Kept.{IsStateOf, Running}
use Rattle.plan_machine.specs.Requests.{asked_at}
use Rattle.plan_machine.specs.Working.{Works}
use Rattle.plan_machine.proofs.RequestLemmas.{asked_is, some_shown}
use Rattle.plan_machine.proofs.StateLemmas.{can_turn, state_stands}
use Rattle.plan_machine.proofs.run.state.State.request.Goals as goal

pub awaited_request-requires : goal.awaited_request-requires
awaited_request-requires c l at =
    let r : Running = record { run_state = c.self.inside.machine; plan = c.self.inside.plan; schedule = c.self.inside.schedule; total = c.self.inside.total } in
    let p = c.args.image.now in
    let laws = c.turn_laws.ensures in
    let is : IsStateOf p r = subst (IsStateOf p) (sym c.self.view_is) c.requires in
    let stands = state_stands laws p c.image-tables.ensures.shaped r is in
    subst (λ (x : Parts). Works (turn x c.args.edge r.run_state.now.slots l)) (sym c.image-tables.ensures.same)
    (can_turn laws p c.image-tables.ensures.shaped r.run_state.limits r.run_state.now stands c.args.edge l at).works

pub returns-clause-some : goal.returns-clause-some
returns-clause-some c l at loud =
    let r : Running = record { run_state = c.self.inside.machine; plan = c.self.inside.plan; schedule = c.self.inside.schedule; total = c.self.inside.total } in
    let p = c.args.image.now in
    let laws = c.turn_laws.ensures in
    let is : IsStateOf p r = subst (IsStateOf p) (sym c.self.view_is) c.requires in
    let stands = state_stands laws p c.image-tables.ensures.shaped c.args.self.now c.requires in
    some_shown c.awaited_request.result (asked_at p c.args.self.now.run_state.now c.args.edge)
    (c.awaited_request.ensures ∙ ap (λ (x : Parts). asked_at x r.run_state.now c.args.edge) c.image-tables.ensures.same ∙ ap (λ (x : Running). asked_at p x.run_state.now c.args.edge) c.self.view_is)
    (asked_is p c.args.self.now.run_state.now c.args.edge l stands at loud)
