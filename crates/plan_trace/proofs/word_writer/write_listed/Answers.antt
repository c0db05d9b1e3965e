use Rattle.std.proofs.Common.{◌∷◌, is_ok, refl, map}
use Rattle.plan_image.specs.Listing.{hex}
use Rattle.plan_trace.specs.Spelling.{behind}
use Rattle.plan_trace.proofs.WritingLemmas.{failed, joined}
use Rattle.plan_trace.proofs.word_writer.write_listed.Goals as goal

pub returns-in-Ok : goal.returns-in-Ok
returns-in-Ok g c =
    joined c.writes_join.ensures.join (is_ok c.write_paths.result) (g.W.Sink.failures c.args.out.now, g.W.Sink.taken c.args.out.now)
    (g.W.Sink.failures c.write_bytes.new.out, g.W.Sink.taken c.write_bytes.new.out)
    (g.W.Sink.failures c.write_paths.new.out, g.W.Sink.taken c.write_paths.new.out)
    (32 ∷ hex c.args.bytes.now) (behind (map hex c.args.paths.now)) (behind (hex c.args.bytes.now ∷ map hex c.args.paths.now)) refl c.in-Ok.ensures c.write_paths.ensures

pub returns-in-Err : goal.returns-in-Err
returns-in-Err g c =
    failed c.writes_join.ensures.failed (g.W.Sink.failures c.args.out.now, g.W.Sink.taken c.args.out.now)
    (g.W.Sink.failures c.write_bytes.new.out, g.W.Sink.taken c.write_bytes.new.out)
    (32 ∷ hex c.args.bytes.now) (behind (map hex c.args.paths.now)) (behind (hex c.args.bytes.now ∷ map hex c.args.paths.now)) refl c.in-Err.ensures
