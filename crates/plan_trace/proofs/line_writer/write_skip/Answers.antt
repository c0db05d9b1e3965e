use Rattle.std.proofs.Common.{◌∷◌, ◌++◌, ◌∙◌, [], ℕ, is_ok, ap, codes}
use Rattle.std.specs.Fmt.{decimal}
use Rattle.plan_machine.specs.declared.event.Event.TheVariants.{Skip}
use Rattle.plan_trace.specs.Spelling.{behind, event_line}
use Rattle.plan_trace.proofs.WritingLemmas.{failed, joined, long_line}
use Rattle.plan_trace.proofs.line_writer.write_skip.Goals as goal

pub returns-in-Ok : goal.returns-in-Ok
returns-in-Ok g c =
    joined c.writes_join.ensures.join (is_ok c.write_last_number.result) (g.W.Sink.failures c.args.out.now, g.W.Sink.taken c.args.out.now)
    (g.W.Sink.failures c.write_begun.new.out, g.W.Sink.taken c.write_begun.new.out)
    (g.W.Sink.failures c.write_last_number.new.out, g.W.Sink.taken c.write_last_number.new.out)
    (codes "skip" ++ 32 ∷ decimal c.from.result) (behind (decimal c.from-in-Ok.result ∷ []) ++ 10 ∷ []) (event_line (Skip c.args.edge c.args.wait)) (long_line (codes "skip") c.from.result c.args.edge (decimal c.from-in-Ok.result ∷ []) c.from.ensures ∙ ap (λ (n : ℕ). event_line (Skip c.args.edge n)) c.from-in-Ok.ensures) c.in-Ok.ensures c.write_last_number.ensures

pub returns-in-Err : goal.returns-in-Err
returns-in-Err g c =
    failed c.writes_join.ensures.failed (g.W.Sink.failures c.args.out.now, g.W.Sink.taken c.args.out.now)
    (g.W.Sink.failures c.write_begun.new.out, g.W.Sink.taken c.write_begun.new.out)
    (codes "skip" ++ 32 ∷ decimal c.from.result) (behind (decimal c.args.wait ∷ []) ++ 10 ∷ []) (event_line (Skip c.args.edge c.args.wait)) (long_line (codes "skip") c.from.result c.args.edge (decimal c.args.wait ∷ []) c.from.ensures) c.in-Err.ensures
