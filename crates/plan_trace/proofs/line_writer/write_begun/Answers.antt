use Rattle.std.proofs.Common.{◌∷◌, ◌++◌, is_ok, refl}
use Rattle.std.specs.Fmt.{decimal}
use Rattle.plan_trace.proofs.WritingLemmas.{joined}
use Rattle.plan_trace.proofs.line_writer.write_begun.Goals as goal

pub returns-in-Ok : goal.returns-in-Ok
returns-in-Ok g c =
    joined c.writes_join.ensures.join (is_ok c.write_number.result) (g.W.Sink.failures c.args.out.now, g.W.Sink.taken c.args.out.now)
    (g.W.Sink.failures c.write_all.new.sink, g.W.Sink.taken c.write_all.new.sink)
    (g.W.Sink.failures c.write_number.new.out, g.W.Sink.taken c.write_number.new.out)
    c.args.word.now (32 ∷ decimal c.args.number) (c.args.word.now ++ 32 ∷ decimal c.args.number) refl c.in-Ok.ensures c.write_number.ensures
