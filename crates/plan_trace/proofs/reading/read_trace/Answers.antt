use Rattle.std.proofs.Common.{Some, Result, sym, subst, ◌∙◌}
use Rattle.plan_text.specs.Outcome.{Meets}
use Rattle.plan_trace.specs.declared.fault.TraceFault.{TraceFault}
use Rattle.plan_trace.specs.declared.fault.TraceFault.TheVariants.{Memory}
use Rattle.plan_trace.specs.declared.trace.Trace.{Trace}
use Rattle.plan_trace.proofs.ReadingLemmas.{head_more}
use Rattle.plan_trace.proofs.reading.read_trace.Goals as goal

pub returns-in-Some-2 : goal.returns-in-Some-2
returns-in-Some-2 c =
    let says = sym c.in-Some-2.is ∙ c.in_ok-options.ensures in
    let whole = head_more c.args.text.now c.in-Some.line.now c.in-Some.behind.now (Some c.in-Some-2.options) c.in-Some.ensures.cut says in
    subst (λ (model : Result Trace TraceFault). Meets Memory (λ (trace : Trace). trace) c.read_behind.result model) (sym whole) c.read_behind.ensures
