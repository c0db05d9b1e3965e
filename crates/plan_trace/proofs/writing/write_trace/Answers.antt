use Rattle.std.proofs.Common.{List, Option, ℕ, Bool, is_ok, subst}
use Rattle.plan_text.specs.Sinks.{Writes}
use Rattle.plan_machine.specs.declared.event.Event.{Event}
use Rattle.plan_trace.specs.Spelling.{run_text}
use Rattle.plan_trace.proofs.writing.write_trace.Goals as goal

pub returns : goal.returns
returns g c =
    let well : Bool = is_ok c.write_parts.result in
    let options = c.args.trace.now.options in
    let old : ℕ × Option (List ℕ) = (g.W.Sink.failures c.args.out.now, g.W.Sink.taken c.args.out.now) in
    let new : ℕ × Option (List ℕ) = (g.W.Sink.failures c.write_parts.new.out, g.W.Sink.taken c.write_parts.new.out) in
    subst (λ (ts : List ℕ). Writes well old new (run_text options ts c.args.trace.now.events)) c.as_slice.ensures
    (subst (λ (es : List Event). Writes well old new (run_text options c.as_slice.result.now es)) c.as_slice-2.ensures c.write_parts.ensures)
