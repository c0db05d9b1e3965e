use Rattle.std.proofs.Common.{◌∷◌, [], is_ok}
use Rattle.std.specs.Fmt.{decimal}
use Rattle.plan_trace.specs.Spelling.{behind}
use Rattle.plan_trace.proofs.WritingLemmas.{failed, joined, two_words}
use Rattle.plan_trace.proofs.word_writer.write_numbered.Goals as goal

pub returns-in-Ok : goal.returns-in-Ok
returns-in-Ok g c =
    joined c.writes_join.ensures.join (is_ok c.write_number.result) (g.W.Sink.failures c.args.out.now, g.W.Sink.taken c.args.out.now)
    (g.W.Sink.failures c.write_word.new.out, g.W.Sink.taken c.write_word.new.out)
    (g.W.Sink.failures c.write_number.new.out, g.W.Sink.taken c.write_number.new.out)
    (32 ∷ c.args.word.now) (32 ∷ decimal c.args.number) (behind (c.args.word.now ∷ decimal c.args.number ∷ [])) (two_words c.args.word.now (decimal c.args.number)) c.in-Ok.ensures c.write_number.ensures

pub returns-in-Err : goal.returns-in-Err
returns-in-Err g c =
    failed c.writes_join.ensures.failed (g.W.Sink.failures c.args.out.now, g.W.Sink.taken c.args.out.now)
    (g.W.Sink.failures c.write_word.new.out, g.W.Sink.taken c.write_word.new.out)
    (32 ∷ c.args.word.now) (32 ∷ decimal c.args.number) (behind (c.args.word.now ∷ decimal c.args.number ∷ [])) (two_words c.args.word.now (decimal c.args.number)) c.in-Err.ensures
