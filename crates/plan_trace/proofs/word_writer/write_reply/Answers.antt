use Rattle.std.proofs.Common.{is_ok, sym, subst}
use Rattle.plan_text.specs.Sinks.{Writes}
use Rattle.plan_machine.specs.declared.event.reply.Reply.{Reply}
use Rattle.plan_trace.specs.Spelling.{behind, reply_words}
use Rattle.plan_trace.proofs.word_writer.write_reply.Goals as goal

pub returns-in-NotStarted : goal.returns-in-NotStarted
returns-in-NotStarted g c =
    subst (λ (r : Reply). Writes (is_ok c.write_word-in-NotStarted.result) (g.W.Sink.failures c.args.out.now, g.W.Sink.taken c.args.out.now)
    (g.W.Sink.failures c.write_word-in-NotStarted.new.out, g.W.Sink.taken c.write_word-in-NotStarted.new.out) (behind (reply_words r))) (sym c.in-NotStarted.is) c.write_word-in-NotStarted.ensures
