use Rattle.std.proofs.Common.{◌≡◌, ap, sym, ◌∙◌}
use Rattle.std.proofs.lemmas.Option.{slice_get-get_or}
use Rattle.std.specs.Prelude.{slice_get, Some}
use Rattle.plan_machine.specs.declared.event.Event.{Event}
use Rattle.plan_machine.proofs.ReplayLemmas.{runs_next, stops}
use Rattle.plan_machine.proofs.run.replaying.go_through.Goals as goal

pub loop-i-preserved : goal.loop-i-preserved
loop-i-preserved c =
    let at : slice_get c.args.events.now c.loop-i.i ≡ Some c.index-events-i.result =
    slice_get-get_or c.args.events.now c.loop-i.i c.index-events-i.result c.loop-i-test.true ∙ ap (λ (e : Event). Some e) (sym c.index-events-i.is) in
    (runs_next c.args.image.now c.args.state.now.run_state c.loop-i.state.run_state c.go.new.state.run_state c.args.events.now c.loop-i.i c.index-events-i.result c.loop-i.marks.items c.go.new.marks.items at c.loop-i.invariant.0 c.in-Ok.ensures.ok, c.go.ensures.state)

pub returns-in-Err-clause-err : goal.returns-in-Err-clause-err
returns-in-Err-clause-err c =
    let at : slice_get c.args.events.now c.loop-i.i ≡ Some c.index-events-i.result =
    slice_get-get_or c.args.events.now c.loop-i.i c.index-events-i.result c.loop-i-test.true ∙ ap (λ (e : Event). Some e) (sym c.index-events-i.is) in
    stops c.args.image.now c.args.state.now.run_state c.loop-i.state.run_state c.args.events.now c.loop-i.i c.index-events-i.result c.loop-i.marks.items c.in-Err.refused at c.loop-i.invariant.0 c.loop-i-test.true c.in-Err.ensures.refused c.in-Err.ensures.inside
