use Rattle.std.proofs.Common.{is_ok}
use Rattle.plan_image.proofs.lister.part.Tuple2Part.write.Goals as goal

pub returns : goal.returns
returns g c = c.writes_join.ensures.join (is_ok c.write-2.result)
    (g.W.Sink.failures c.args.out.now, g.W.Sink.taken c.args.out.now)
    (g.W.Sink.failures c.write.new.out, g.W.Sink.taken c.write.new.out)
    (g.W.Sink.failures c.write-2.new.out, g.W.Sink.taken c.write-2.new.out)
    (g.A.Part.text c.args.self.now.0) (g.B.Part.text c.args.self.now.1) c.in_ok-write.ensures c.write-2.ensures
