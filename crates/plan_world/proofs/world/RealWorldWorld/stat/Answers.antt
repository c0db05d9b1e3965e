use Rattle.plan_world.proofs.AnswerLemmas.{may_stat}
use Rattle.plan_world.proofs.world.RealWorldWorld.stat.Goals as goal

pub returns : goal.returns
returns g c = may_stat g.D.Disk.looked g.D.Disk.held g.S.Shells.ended c.args.path.now c.stat-reply.result c.stat-reply.ensures.suits c.stat-reply.ensures.no_text c.stat-reply.ensures.looked
