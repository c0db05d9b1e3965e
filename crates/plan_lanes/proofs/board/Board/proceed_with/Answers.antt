use Rattle.std.proofs.Common.{◌≡◌, ◌∙◌, subst, sym}
use Rattle.std.specs.Prelude.{IfOk}
use Rattle.plan_lanes.specs.Permits.{Permits}
use Rattle.plan_lanes.specs.Proceeds.{Proceeds}
use Rattle.plan_lanes.specs.Progress.{Opened, Progress}
use Rattle.plan_lanes.specs.Questions.{shown}
use Rattle.plan_lanes.specs.LocalRuns.{GoesOn}
use Rattle.plan_lanes.proofs.ProceedLemmas.{ran_locally_asks, ran_locally_awaits, ran_locally_moves}
use Rattle.plan_lanes.proofs.LocalRunLemmas.{goes_none, still_stays}
use Rattle.plan_lanes.proofs.board.Board.proceed_with.Goals as goal

pub returns-in_err-local_run-clause-goes : goal.returns-in_err-local_run-clause-goes
returns-in_err-local_run-clause-goes g c = goes_none c.args.self.now c.record_local_run.new.self c.in_err-local_run.ensures.err

pub ask_of-requires : goal.ask_of-requires
ask_of-requires g c = ran_locally_awaits c.args.self.now c.record_local_run.new.self c.args.edge c.in_ok-local_run.local_run c.in_ok-local_run.ensures.ok c.if-local_run.true

pub returns-then-local_run-clause-ok : goal.returns-then-local_run-clause-ok
returns-then-local_run-clause-ok g c =
    let old : Progress = c.args.self.now in
    let q = c.in_ok-question.question in (
      ran_locally_asks old c.record_local_run.new.self c.args.edge q.number (shown q.request) c.in_ok-local_run.local_run c.in_ok-local_run.ensures.ok c.if-local_run.true c.in_ok-question.ensures.awaited,
      subst (λ (o : Opened). Permits o.parts c.args.edge (shown q.request) c.in_ok-question.permit) c.in_ok-local_run.ensures.ok.opened c.in_ok-question.ensures.permit,
    )

pub returns-then-is_still-clause-ok : goal.returns-then-is_still-clause-ok
returns-then-is_still-clause-ok g c =
    let old : Progress = c.args.self.now in
    let same : c.record_local_run.new.self ≡ old = still_stays old c.record_local_run.new.self c.args.edge c.in_ok-local_run.local_run c.in_ok-local_run.ensures.ok (sym c.is_still.ensures ∙ c.if-is_still.true) in
    subst (λ (b : Progress). IfOk c.advance_one.result (λ a. Proceeds b c.advance_one.new.self a)) same c.advance_one.ensures.proceeds

pub returns-then-is_still-clause-goes : goal.returns-then-is_still-clause-goes
returns-then-is_still-clause-goes g c =
    let old : Progress = c.args.self.now in
    let same : c.record_local_run.new.self ≡ old = still_stays old c.record_local_run.new.self c.args.edge c.in_ok-local_run.local_run c.in_ok-local_run.ensures.ok (sym c.is_still.ensures ∙ c.if-is_still.true) in
    subst (λ (b : Progress). GoesOn b c.advance_one.new.self) same c.advance_one.ensures.goes

pub returns-clause-ok : goal.returns-clause-ok
returns-clause-ok g c = ran_locally_moves c.args.self.now c.record_local_run.new.self c.args.edge c.in_ok-local_run.local_run c.in_ok-local_run.ensures.ok c.if-local_run.false (sym c.is_still.ensures ∙ c.if-is_still.false)
