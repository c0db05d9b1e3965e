use Rattle.std.proofs.Common.{◌∷◌, [], false}
use Rattle.std.proofs.lemmas.Result.{err_from_is_err_and}
use Rattle.plan_image.proofs.lister.part.LinePart.write.Goals as goal

pub returns-in_err-write_all : goal.returns-in_err-write_all
returns-in_err-write_all g c =
    let p = err_from_is_err_and c.from_residual-in_err-write_all.result c.from_residual-in_err-write_all.ensures.1 in
    rw p.1 (c.writes_join.ensures.join false
    (g.W.Sink.failures c.args.out.now, g.W.Sink.taken c.args.out.now)
    (g.W.Sink.failures c.write.new.out, g.W.Sink.taken c.write.new.out)
    (g.W.Sink.failures c.write_all.new.sink, g.W.Sink.taken c.write_all.new.sink)
    (g.A.Part.text c.args.self.now.0) (10 ∷ []) c.in_ok-write.ensures c.in_err-write_all.ensures)
