use Rattle.std.proofs.Common.{◌≡◌, ◌∙◌, ℕ, Option, ap, length, refl, subst, sym, true}
use Rattle.plan_machine.specs.declared.event.Mark.TheVariants as mark
use Rattle.std.specs.Prelude.{IfSome}
use Rattle.plan_image.specs.declared.image.Parts.{Parts}
use Rattle.plan_lanes.specs.Advances.{WouldAsk}
use Rattle.plan_lanes.specs.declared.batch.OwnedRequest.{OwnedRequest}
use Rattle.plan_lanes.specs.Observations.{observed_if}
use Rattle.plan_lanes.specs.Permits.{AreParts, Permits}
use Rattle.plan_lanes.specs.Progress.{Progress, run_state_of}
use Rattle.plan_lanes.specs.Questions.{shown}
use Rattle.plan_lanes.proofs.ObservedLemmas.{observes_of, permits_of, stays_observed}
use Rattle.plan_lanes.proofs.ProceedLemmas.{applied_asks, applied_moves}
use Rattle.plan_lanes.proofs.LocalRunLemmas.{goes_none, goes_one}
use Rattle.plan_lanes.proofs.StepLemmas.{asks_job, asks_told}
use Rattle.plan_lanes.proofs.board.Board.go_on.Goals as goal

pub returns-in-Some-clause-ok : goal.returns-in-Some-clause-ok
returns-in-Some-clause-ok g c = (
  c.args.event,
  record { own = c.requires.own; mark = c.in_ok-record.field-0; applies = c.in_ok-record.ensures.ok },
  sym c.edge_of-edge.ensures,
  asks_job c.args.self.now c.record.new.self c.args.event c.in_ok-record.field-0 c.in_ok-asked.asked c.in-Some.request c.edge_of-edge.result c.in-Some.is c.in_ok-asked.ensures c.in_ok-record.ensures.ok c.edge_of-edge.ensures,
  c.len-number.ensures ∙ ap (λ (b : Progress). length b.journal) c.self.view_is,
  let same : c.self.inside.image.now ≡ c.args.self.now.opened.parts = ap (λ (b : Progress). b.opened.parts) c.self.view_is in
      let parts = subst (λ (o : Option OwnedRequest). IfSome o (λ r. AreParts g.W.World.observes c.args.self.now c.edge_of-edge.result (shown r) c.in_ok-parts.parts)) c.in-Some.is c.in_ok-parts.ensures in
      subst (λ (p : Parts). Permits p c.edge_of-edge.result (shown c.in-Some.request) c.permit_for-permit.result) same
      (permits_of g.W.World.observes c.args.self.now c.self.inside.image.now c.edge_of-edge.result (shown c.in-Some.request) c.in_ok-parts.parts c.permit_for-permit.result parts c.permit_for-permit.ensures),
)

pub returns-in-Some-clause-proceeds : goal.returns-in-Some-clause-proceeds
returns-in-Some-clause-proceeds g c =
    let old = c.args.self.now in
    let new = c.record.new.self in
    let told = c.in_ok-record.field-0 in
    let e = c.edge_of-edge.result in
    let a = c.in-Some.request in
    let asks = subst (WouldAsk old.opened.parts (run_state_of old) c.args.event) c.in-Some.is c.in_ok-asked.ensures in
    let is = asks_told old.opened.parts (run_state_of old) c.args.event (shown a) new.state told asks c.in_ok-record.ensures.ok.next ∙ ap (λ (f : ℕ). mark.Asked f) (sym c.edge_of-edge.ensures) in
    let number = c.len-number.ensures ∙ ap (λ (b : Progress). length b.journal) c.self.view_is in
    let asked = asks_job old new c.args.event told c.in_ok-asked.asked a e c.in-Some.is c.in_ok-asked.ensures c.in_ok-record.ensures.ok c.edge_of-edge.ensures in
    let parts = subst (λ (o : Option OwnedRequest). IfSome o (λ r. AreParts g.W.World.observes old e (shown r) c.in_ok-parts.parts)) c.in-Some.is c.in_ok-parts.ensures in
    let same : c.self.inside.image.now ≡ old.opened.parts = ap (λ (b : Progress). b.opened.parts) c.self.view_is in (
      applied_asks old new c.args.event told e c.len-number.result (shown a) c.in_ok-record.ensures.ok asks c.edge_of-edge.ensures is number asked,
      subst (λ (p : Parts). Permits p e (shown a) c.permit_for-permit.result) same (permits_of g.W.World.observes old c.self.inside.image.now e (shown a) c.in_ok-parts.parts c.permit_for-permit.result parts c.permit_for-permit.ensures),
    )

pub returns-in-None-clause-proceeds : goal.returns-in-None-clause-proceeds
returns-in-None-clause-proceeds g c =
    applied_moves c.args.self.now c.record.new.self c.args.event c.in_ok-record.field-0 c.in_ok-record.ensures.ok
    (subst (WouldAsk c.args.self.now.opened.parts (run_state_of c.args.self.now) c.args.event) c.in-None.is c.in_ok-asked.ensures)

pub returns-in_err-asked-clause-goes : goal.returns-in_err-asked-clause-goes
returns-in_err-asked-clause-goes g c = goes_none c.args.self.now c.args.self.now refl

pub returns-in_err-record-clause-goes : goal.returns-in_err-record-clause-goes
returns-in_err-record-clause-goes g c = goes_none c.args.self.now c.record.new.self c.in_err-record.ensures.err

pub returns-in-None-clause-goes : goal.returns-in-None-clause-goes
returns-in-None-clause-goes g c = goes_one c.args.self.now c.record.new.self c.args.event c.in_ok-record.field-0 c.in_ok-record.ensures.ok

pub returns-in-Some-clause-goes : goal.returns-in-Some-clause-goes
returns-in-Some-clause-goes g c = goes_one c.args.self.now c.record.new.self c.args.event c.in_ok-record.field-0 c.in_ok-record.ensures.ok

pub returns-in_err-parts-clause-goes : goal.returns-in_err-parts-clause-goes
returns-in_err-parts-clause-goes g c = goes_none c.args.self.now c.args.self.now refl

pub returns-in-Some-clause-observes : goal.returns-in-Some-clause-observes
returns-in-Some-clause-observes g c =
    let old = c.args.self.now in
    let new = c.record.new.self in
    let told = c.in_ok-record.field-0 in
    let e = c.edge_of-edge.result in
    let a = c.in-Some.request in
    let observes = g.W.World.observes in
    let asks = subst (WouldAsk old.opened.parts (run_state_of old) c.args.event) c.in-Some.is c.in_ok-asked.ensures in
    let is = asks_told old.opened.parts (run_state_of old) c.args.event (shown a) new.state told asks c.in_ok-record.ensures.ok.next ∙ ap (λ (f : ℕ). mark.Asked f) (sym c.edge_of-edge.ensures) in
    let parts = subst (λ (o : Option OwnedRequest). IfSome o (λ r. AreParts observes old e (shown r) c.in_ok-parts.parts)) c.in-Some.is c.in_ok-parts.ensures in
    observes_of observes old (observed_if observes new e) c.self.inside.image.now e (shown a) c.in_ok-parts.parts c.permit_for-permit.result parts
    (stays_observed observes old new c.args.event told e e c.requires.own c.in_ok-record.ensures.ok is) c.permit_for-permit.ensures
