use Rattle.std.proofs.Common.{Some, None, sym, ◌∙◌}
use Rattle.plan_trace.proofs.ReadingLemmas.{next_event}
use Rattle.plan_trace.proofs.reading.first_event.Goals as goal

pub returns-in-Some-2-clause-some : goal.returns-in-Some-2-clause-some
returns-in-Some-2-clause-some c =
    let text = c.args.text.now in
    let line = c.in-Some.line.now in
    let behind = c.in-Some.behind.now in
    (λ n. next_event n text line behind (Some c.in-Some-2.event) c.in-Some.ensures.cut (sym c.in-Some-2.is ∙ c.in_ok-event.ensures), c.in-Some.ensures.shorter)

pub returns-in-None-clause-none : goal.returns-in-None-clause-none
returns-in-None-clause-none c = λ n some. next_event n c.args.text.now c.in-Some.line.now c.in-Some.behind.now None c.in-Some.ensures.cut (sym c.in-None.is ∙ c.in_ok-event.ensures)
