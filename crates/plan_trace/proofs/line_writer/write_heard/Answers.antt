use Rattle.std.proofs.Common.{◌∷◌, ◌++◌, [], is_ok, codes}
use Rattle.std.specs.Fmt.{decimal}
use Rattle.plan_machine.specs.declared.event.Event.TheVariants.{Reply as Hear}
use Rattle.plan_trace.specs.Spelling.{behind, event_line, reply_words}
use Rattle.plan_trace.proofs.WritingLemmas.{failed, joined, long_line}
use Rattle.plan_trace.proofs.line_writer.write_heard.Goals as goal

pub returns-in-Ok : goal.returns-in-Ok
returns-in-Ok g c =
    joined c.writes_join.ensures.join (is_ok c.write_last_reply.result) (g.W.Sink.failures c.args.out.now, g.W.Sink.taken c.args.out.now)
    (g.W.Sink.failures c.write_begun.new.out, g.W.Sink.taken c.write_begun.new.out)
    (g.W.Sink.failures c.write_last_reply.new.out, g.W.Sink.taken c.write_last_reply.new.out)
    (codes "reply" ++ 32 ∷ decimal c.from.result) (behind (reply_words c.args.reply.now) ++ 10 ∷ []) (event_line (Hear c.args.edge c.args.reply.now)) (long_line (codes "reply") c.from.result c.args.edge (reply_words c.args.reply.now) c.from.ensures) c.in-Ok.ensures c.write_last_reply.ensures

pub returns-in-Err : goal.returns-in-Err
returns-in-Err g c =
    failed c.writes_join.ensures.failed (g.W.Sink.failures c.args.out.now, g.W.Sink.taken c.args.out.now)
    (g.W.Sink.failures c.write_begun.new.out, g.W.Sink.taken c.write_begun.new.out)
    (codes "reply" ++ 32 ∷ decimal c.from.result) (behind (reply_words c.args.reply.now) ++ 10 ∷ []) (event_line (Hear c.args.edge c.args.reply.now)) (long_line (codes "reply") c.from.result c.args.edge (reply_words c.args.reply.now) c.from.ensures) c.in-Err.ensures
