use Rattle.std.proofs.Common.{◌∷◌, ◌++◌, [], ℕ, is_ok, refl, ap, codes}
use Rattle.std.specs.Fmt.{decimal}
use Rattle.plan_trace.specs.Spelling.{behind}
use Rattle.plan_trace.proofs.WritingLemmas.{failed, joined}
use Rattle.plan_trace.proofs.line_writer.write_keep.Goals as goal

pub returns-in-Ok : goal.returns-in-Ok
returns-in-Ok g c =
    joined c.writes_join.ensures.join (is_ok c.write_last_number.result) (g.W.Sink.failures c.args.out.now, g.W.Sink.taken c.args.out.now)
    (g.W.Sink.failures c.write_all.new.sink, g.W.Sink.taken c.write_all.new.sink)
    (g.W.Sink.failures c.write_last_number.new.out, g.W.Sink.taken c.write_last_number.new.out)
    (codes " k") (behind (decimal c.from.result ∷ []) ++ 10 ∷ []) (behind (codes "k" ∷ decimal c.args.keep ∷ []) ++ 10 ∷ []) (ap (λ (n : ℕ). codes " k" ++ (behind (decimal n ∷ []) ++ 10 ∷ [])) c.from.ensures) c.in-Ok.ensures c.write_last_number.ensures

pub returns-in-Err : goal.returns-in-Err
returns-in-Err g c =
    failed c.writes_join.ensures.failed (g.W.Sink.failures c.args.out.now, g.W.Sink.taken c.args.out.now)
    (g.W.Sink.failures c.write_all.new.sink, g.W.Sink.taken c.write_all.new.sink)
    (codes " k") (behind (decimal c.args.keep ∷ []) ++ 10 ∷ []) (behind (codes "k" ∷ decimal c.args.keep ∷ []) ++ 10 ∷ []) refl c.in-Err.ensures
