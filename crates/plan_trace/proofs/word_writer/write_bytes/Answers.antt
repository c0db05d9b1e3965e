use Rattle.std.proofs.Common.{◌∷◌, [], is_ok, refl}
use Rattle.plan_image.specs.Listing.{hex}
use Rattle.plan_trace.proofs.WritingLemmas.{joined}
use Rattle.plan_trace.proofs.word_writer.write_bytes.Goals as goal

pub returns-in-Ok : goal.returns-in-Ok
returns-in-Ok g c =
    joined c.writes_join.ensures.join (is_ok c.write_hex.result) (g.W.Sink.failures c.args.out.now, g.W.Sink.taken c.args.out.now)
    (g.W.Sink.failures c.write_all.new.sink, g.W.Sink.taken c.write_all.new.sink)
    (g.W.Sink.failures c.write_hex.new.out, g.W.Sink.taken c.write_hex.new.out)
    (32 ∷ []) (hex c.args.bytes.now) (32 ∷ hex c.args.bytes.now) refl c.in-Ok.ensures c.write_hex.ensures
