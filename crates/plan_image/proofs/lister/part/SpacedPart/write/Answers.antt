use Rattle.std.proofs.Common.{◌∷◌, is_ok}
use Rattle.plan_image.proofs.lister.part.SpacedPart.write.Goals as goal

pub returns : goal.returns
returns g c = c.writes_join.ensures.join (is_ok c.write_behind_space.result)
    (g.W.Sink.failures c.args.out.now, g.W.Sink.taken c.args.out.now)
    (g.W.Sink.failures c.write.new.out, g.W.Sink.taken c.write.new.out)
    (g.W.Sink.failures c.write_behind_space.new.out, g.W.Sink.taken c.write_behind_space.new.out)
    (g.A.Part.text c.args.self.now.0) (32 ∷ g.B.Part.text c.args.self.now.1) c.in_ok-write.ensures c.write_behind_space.ensures
