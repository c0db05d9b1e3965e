use Rattle.std.proofs.Common.{◌≡◌, ℕ, ◌-◌, ◌++◌, ap, arith, length, length-append, List, sym, subst, ◌∙◌}
use Rattle.std.specs.Prelude.{slice_set}
use Rattle.plan_machine.specs.declared.event.Event.{Event}
use Rattle.plan_machine.specs.LocalRuns.{local_run_events, local_run_marks}
use Rattle.plan_lanes.specs.Boards.{IsKept}
use Rattle.plan_lanes.specs.Progress.{progress}
use Rattle.plan_lanes.proofs.LocalRunLemmas.{all_so, kept_local_run, kept_still, local_run_long}
use Rattle.plan_lanes.proofs.ObservableLemmas.{local_run_leaves}
use Rattle.plan_lanes.proofs.board.Board.record_local_run.Goals as goal

pub invariant_of-self-then-is_still : goal.invariant_of-self-then-is_still
invariant_of-self-then-is_still g c =
    let b = c.self.inside in
    let next = c.run_locally-local_run.new.self in
    let kept = kept_still g.W.World.allows b.numbers.items b.image.now b.targets.items b.state next b.journal_builder.events b.marks.items c.args.edge c.run_locally-local_run.result c.self.invariant
    c.run_locally-local_run.ensures.state c.run_locally-local_run.ensures.runs (sym c.is_still.ensures ∙ c.if-is_still.true) in
    subst (λ (es : List Event). IsKept g.W.World.allows b.numbers.items next (progress b.image.now b.targets.items next.run_state es b.marks.items)) (sym c.reserve.ensures.same) kept

pub overflow_sub-number : goal.overflow_sub-number
overflow_sub-number g c =
    let long = local_run_long c.args.edge c.run_locally-local_run.result (sym c.is_still.ensures ∙ c.if-is_still.false) in
    let events : c.push_steps.new.self.events ≡ c.reserve.new.self.events ++ local_run_events c.args.edge c.run_locally-local_run.result =
    c.push_steps.ensures ∙ ap (λ (l : List Event). c.reserve.new.self.events ++ l) (sym (c.count.ensures.steps c.args.edge)) in
    omega (arith, long, c.len-number.ensures, ap (λ (l : List Event). length l) events, length-append c.reserve.new.self.events (local_run_events c.args.edge c.run_locally-local_run.result))

pub invariant_of-self-2 : goal.invariant_of-self-2
invariant_of-self-2 g c =
    let b = c.self.inside in
    let next = c.run_locally-local_run.new.self in
    let e = c.args.edge in
    let local_run = c.run_locally-local_run.result in
    let events : c.push_steps.new.self.events ≡ b.journal_builder.events ++ local_run_events e local_run =
    c.push_steps.ensures ∙ ap (λ (l : List Event). c.reserve.new.self.events ++ l) (sym (c.count.ensures.steps e)) ∙ ap (λ (l : List Event). l ++ local_run_events e local_run) c.reserve.ensures.same in
    kept_local_run g.W.World.allows b.numbers.items b.image.now b.targets.items b.state next b.journal_builder.events b.marks.items e local_run c.self.invariant c.run_locally-local_run.ensures.state
    c.put.new.numbers.items c.push_steps.new.self.events b.marks.items
    (c.put.ensures ∙ ap (λ (n : ℕ). slice_set b.numbers.items e (n - 1)) c.len-number.ensures) events (local_run_leaves b.marks.items e local_run) c.run_locally-local_run.ensures.runs (sym c.is_still.ensures ∙ c.if-is_still.false)

pub returns-clause-ok : goal.returns-clause-ok
returns-clause-ok g c =
    let b = c.self.inside in
    let next = c.run_locally-local_run.new.self in
    let e = c.args.edge in
    let local_run = c.run_locally-local_run.result in
    let events : c.push_steps.new.self.events ≡ b.journal_builder.events ++ local_run_events e local_run =
    c.push_steps.ensures ∙ ap (λ (l : List Event). c.reserve.new.self.events ++ l) (sym (c.count.ensures.steps e)) ∙ ap (λ (l : List Event). l ++ local_run_events e local_run) c.reserve.ensures.same in
    all_so b.image.now b.targets.items b.state.run_state next.run_state b.journal_builder.events c.push_steps.new.self.events b.marks.items b.marks.items c.args.self.now (local_run_events e local_run) (local_run_marks e local_run)
    c.self.view_is c.run_locally-local_run.ensures.runs events (local_run_leaves b.marks.items e local_run)
