use Rattle.std.proofs.Common.{◌∷◌, ◌++◌, [], is_ok}
use Rattle.std.specs.Fmt.{decimal}
use Rattle.plan_trace.specs.Spelling.{behind}
use Rattle.plan_trace.proofs.WritingLemmas.{failed, joined, last_word}
use Rattle.plan_trace.proofs.line_writer.write_last_number.Goals as goal

pub returns-in-Ok : goal.returns-in-Ok
returns-in-Ok g c =
    joined c.writes_join.ensures.join (is_ok c.write_all.result) (g.W.Sink.failures c.args.out.now, g.W.Sink.taken c.args.out.now)
    (g.W.Sink.failures c.write_number.new.out, g.W.Sink.taken c.write_number.new.out)
    (g.W.Sink.failures c.write_all.new.sink, g.W.Sink.taken c.write_all.new.sink)
    (32 ∷ decimal c.args.number) (10 ∷ []) (behind (decimal c.args.number ∷ []) ++ 10 ∷ []) (last_word (decimal c.args.number) (10 ∷ [])) c.in-Ok.ensures c.write_all.ensures

pub returns-in-Err : goal.returns-in-Err
returns-in-Err g c =
    failed c.writes_join.ensures.failed (g.W.Sink.failures c.args.out.now, g.W.Sink.taken c.args.out.now)
    (g.W.Sink.failures c.write_number.new.out, g.W.Sink.taken c.write_number.new.out)
    (32 ∷ decimal c.args.number) (10 ∷ []) (behind (decimal c.args.number ∷ []) ++ 10 ∷ []) (last_word (decimal c.args.number) (10 ∷ [])) c.in-Err.ensures
