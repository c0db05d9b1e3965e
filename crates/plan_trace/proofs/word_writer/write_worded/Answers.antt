use Rattle.std.proofs.Common.{◌∷◌, [], is_ok}
use Rattle.plan_image.specs.Listing.{hex}
use Rattle.plan_trace.specs.Spelling.{behind}
use Rattle.plan_trace.proofs.WritingLemmas.{failed, joined, two_words}
use Rattle.plan_trace.proofs.word_writer.write_worded.Goals as goal

pub returns-in-Ok : goal.returns-in-Ok
returns-in-Ok g c =
    joined c.writes_join.ensures.join (is_ok c.write_bytes.result) (g.W.Sink.failures c.args.out.now, g.W.Sink.taken c.args.out.now)
    (g.W.Sink.failures c.write_word.new.out, g.W.Sink.taken c.write_word.new.out)
    (g.W.Sink.failures c.write_bytes.new.out, g.W.Sink.taken c.write_bytes.new.out)
    (32 ∷ c.args.word.now) (32 ∷ hex c.args.bytes.now) (behind (c.args.word.now ∷ hex c.args.bytes.now ∷ [])) (two_words c.args.word.now (hex c.args.bytes.now)) c.in-Ok.ensures c.write_bytes.ensures

pub returns-in-Err : goal.returns-in-Err
returns-in-Err g c =
    failed c.writes_join.ensures.failed (g.W.Sink.failures c.args.out.now, g.W.Sink.taken c.args.out.now)
    (g.W.Sink.failures c.write_word.new.out, g.W.Sink.taken c.write_word.new.out)
    (32 ∷ c.args.word.now) (32 ∷ hex c.args.bytes.now) (behind (c.args.word.now ∷ hex c.args.bytes.now ∷ [])) (two_words c.args.word.now (hex c.args.bytes.now)) c.in-Err.ensures
