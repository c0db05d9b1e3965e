use Rattle.std.proofs.Common.{◌∷◌, ◌++◌, [], is_ok, refl}
use Rattle.std.specs.Fmt.{decimal}
use Rattle.plan_trace.specs.Spelling.{behind, line}
use Rattle.plan_trace.proofs.WritingLemmas.{failed, joined, short_line}
use Rattle.plan_trace.proofs.line_writer.write_short.Goals as goal

pub returns-in-Ok : goal.returns-in-Ok
returns-in-Ok g c =
    joined c.writes_join.ensures.join (is_ok c.write_last_number.result) (g.W.Sink.failures c.args.out.now, g.W.Sink.taken c.args.out.now)
    (g.W.Sink.failures c.write_all.new.sink, g.W.Sink.taken c.write_all.new.sink)
    (g.W.Sink.failures c.write_last_number.new.out, g.W.Sink.taken c.write_last_number.new.out)
    c.args.word.now (behind (decimal c.from.result ∷ []) ++ 10 ∷ []) (line (c.args.word.now ∷ decimal c.args.number ∷ [])) (short_line c.args.word.now c.from.result c.args.number c.from.ensures) c.in-Ok.ensures c.write_last_number.ensures

pub returns-in-Err : goal.returns-in-Err
returns-in-Err g c =
    failed c.writes_join.ensures.failed (g.W.Sink.failures c.args.out.now, g.W.Sink.taken c.args.out.now)
    (g.W.Sink.failures c.write_all.new.sink, g.W.Sink.taken c.write_all.new.sink)
    c.args.word.now (behind (decimal c.args.number ∷ []) ++ 10 ∷ []) (line (c.args.word.now ∷ decimal c.args.number ∷ [])) (short_line c.args.word.now c.args.number c.args.number refl) c.in-Err.ensures
