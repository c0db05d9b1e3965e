use Rattle.plan_world.proofs.AnswerLemmas.{may_read}
use Rattle.plan_world.proofs.world.RealWorldWorld.read_depfile.Goals as goal

pub returns : goal.returns
returns g c = may_read g.D.Disk.looked g.D.Disk.held g.S.Shells.ended c.args.path.now c.read_depfile-reply.result c.read_depfile-reply.ensures.suits c.read_depfile-reply.ensures.no_text c.read_depfile-reply.ensures.held
