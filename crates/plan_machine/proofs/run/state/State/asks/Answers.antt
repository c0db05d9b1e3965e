use Rattle.std.proofs.Common.{ap, ◌∙◌, sym, subst}
use Rattle.plan_image.specs.declared.image.Parts.{Parts}
use Rattle.plan_machine.specs.Applying.{CanTurn}
use Rattle.plan_machine.specs.Requests.{asks_by}
use Rattle.plan_machine.proofs.AsksLemmas.{shown_asks, shown_nothing}
use Rattle.plan_machine.proofs.StateLemmas.{can_turn, state_stands}
use Rattle.plan_machine.proofs.run.state.State.asks.Goals as goal

pub asked_by-requires-clause-turns : goal.asked_by-requires-clause-turns
asked_by-requires-clause-turns c e l at =
    let r = c.args.self.now in
    let p = c.args.image.now in
    let laws = c.turn_laws.ensures in
    let stands = state_stands laws p c.image-tables.ensures.shaped r c.requires in
    subst (λ (x : Parts). CanTurn x r.run_state.now.slots e l) (sym c.image-tables.ensures.same) (can_turn laws p c.image-tables.ensures.shaped r.run_state.limits r.run_state.now stands e l at)

pub returns-clause-asks : goal.returns-clause-asks
returns-clause-asks c =
    let g = c.args.self.now.run_state in
    shown_asks c.args.image.now g c.args.event.now c.asked_by.result (c.asked_by.ensures ∙ ap (λ (x : Parts). asks_by x g.limits g.now c.args.event.now) c.image-tables.ensures.same)

pub returns-clause-none : goal.returns-clause-none
returns-clause-none c =
    let g = c.args.self.now.run_state in
    shown_nothing c.args.image.now g c.args.event.now c.asked_by.result (c.asked_by.ensures ∙ ap (λ (x : Parts). asks_by x g.limits g.now c.args.event.now) c.image-tables.ensures.same)
