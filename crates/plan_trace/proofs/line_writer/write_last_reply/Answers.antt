use Rattle.std.proofs.Common.{◌∷◌, ◌++◌, [], is_ok, refl}
use Rattle.plan_trace.specs.Spelling.{behind, reply_words}
use Rattle.plan_trace.proofs.WritingLemmas.{joined}
use Rattle.plan_trace.proofs.line_writer.write_last_reply.Goals as goal

pub returns-in-Ok : goal.returns-in-Ok
returns-in-Ok g c =
    joined c.writes_join.ensures.join (is_ok c.write_all.result) (g.W.Sink.failures c.args.out.now, g.W.Sink.taken c.args.out.now)
    (g.W.Sink.failures c.write_reply.new.out, g.W.Sink.taken c.write_reply.new.out)
    (g.W.Sink.failures c.write_all.new.sink, g.W.Sink.taken c.write_all.new.sink)
    (behind (reply_words c.args.reply.now)) (10 ∷ []) (behind (reply_words c.args.reply.now) ++ 10 ∷ []) refl c.in-Ok.ensures c.write_all.ensures
