use Rattle.std.proofs.Common.{◌∷◌, [], is_ok, refl}
use Rattle.plan_trace.proofs.WritingLemmas.{joined}
use Rattle.plan_trace.proofs.word_writer.write_word.Goals as goal

pub returns-in-Ok : goal.returns-in-Ok
returns-in-Ok g c =
    joined c.writes_join.ensures.join (is_ok c.write_all-in-Ok.result) (g.W.Sink.failures c.args.out.now, g.W.Sink.taken c.args.out.now)
    (g.W.Sink.failures c.write_all.new.sink, g.W.Sink.taken c.write_all.new.sink)
    (g.W.Sink.failures c.write_all-in-Ok.new.sink, g.W.Sink.taken c.write_all-in-Ok.new.sink)
    (32 ∷ []) c.args.word.now (32 ∷ c.args.word.now) refl c.in-Ok.ensures c.write_all-in-Ok.ensures
