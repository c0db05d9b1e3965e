use Rattle.std.proofs.Common.{◌∷◌, [], is_ok}
use Rattle.plan_image.proofs.lister.part.write_behind_space.Goals as goal

pub returns : goal.returns
returns g c = c.writes_join.ensures.join (is_ok c.write.result)
    (g.W.Sink.failures c.args.out.now, g.W.Sink.taken c.args.out.now)
    (g.W.Sink.failures c.write_all.new.sink, g.W.Sink.taken c.write_all.new.sink)
    (g.W.Sink.failures c.write.new.out, g.W.Sink.taken c.write.new.out)
    (32 ∷ []) (g.A.Part.text c.args.part.now) c.in_ok-write_all.ensures c.write.ensures
