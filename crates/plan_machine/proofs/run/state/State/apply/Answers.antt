use Rattle.std.proofs.Common.{◌∙◌, sym, subst}
use Rattle.std.specs.Prelude.{Ok}
use Rattle.plan_image.specs.declared.image.Parts.{Parts}
use Rattle.plan_machine.specs.Applying.{Applied, CanTurn}
use Rattle.plan_machine.specs.Hearing.{CanHear}
use Rattle.plan_machine.specs.Kept.{AreKept}
use Rattle.plan_machine.proofs.StateLemmas.{can_hear, can_turn, left_behind, next_state, state_stands}
use Rattle.plan_machine.proofs.run.state.State.apply.Goals as goal

pub change-requires-clause-turns : goal.change-requires-clause-turns
change-requires-clause-turns c e l at =
    let r = c.args.self.now in
    let laws = c.turn_laws.ensures in
    let stands = state_stands laws c.args.image.now c.image-tables.ensures.shaped r c.requires in
    subst (λ (p : Parts). CanTurn p r.run_state.now.slots e l) (sym c.image-tables.ensures.same) (can_turn laws c.args.image.now c.image-tables.ensures.shaped r.run_state.limits r.run_state.now stands e l at)

pub change-requires-clause-hears : goal.change-requires-clause-hears
change-requires-clause-hears c e a l at =
    let r = c.args.self.now in
    let laws = c.turn_laws.ensures in
    let stands = state_stands laws c.args.image.now c.image-tables.ensures.shaped r c.requires in
    subst (λ (p : Parts). CanHear p e a l) (sym c.image-tables.ensures.same) (can_hear laws laws.ignore_slots c.args.image.now r.run_state.now stands e a l at)

pub note-requires : goal.note-requires
note-requires c =
    let r = c.args.self.now in
    let p = c.image-tables.result.now in
    let kept : AreKept p r.run_state.now r.plan r.schedule = subst (λ (x : Parts). AreKept x r.run_state.now r.plan r.schedule) (sym c.image-tables.ensures.same) c.requires.kept in
    left_behind p r c.change.new.self c.args.event c.in_ok-mark.mark c.edge-edge.result kept c.in_ok-mark.ensures.applied c.in_ok-mark.ensures.plan c.in_ok-mark.ensures.schedule c.edge-edge.ensures

pub returns-clause-state : goal.returns-clause-state
returns-clause-state c =
    let r = c.args.self.now in
    let new = c.note.new.self in
    let p = c.args.image.now in
    let applied : Applied p r.run_state c.args.event (Ok c.in_ok-mark.mark) c.change.new.self.run_state =
    subst (λ (x : Parts). Applied x r.run_state c.args.event (Ok c.in_ok-mark.mark) c.change.new.self.run_state) c.image-tables.ensures.same c.in_ok-mark.ensures.applied in
    next_state p r c.change.new.self new c.args.event c.in_ok-mark.mark c.requires applied c.note.ensures.run_state (c.note.ensures.total ∙ c.in_ok-mark.ensures.total)
    (subst (λ (x : Parts). AreKept x new.run_state.now new.plan new.schedule) c.image-tables.ensures.same c.note.ensures.kept)
