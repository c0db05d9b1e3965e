use Rattle.plan_world.proofs.AnswerLemmas.{recalls_if_found}
use Rattle.plan_world.proofs.world.RealWorldWorld.foreign_among.Goals as goal

pub returns-in-Ok : goal.returns-in-Ok
returns-in-Ok g c = recalls_if_found g.D.Disk.looked g.D.Disk.held g.S.Shells.ended c.args.wanted.now c.args.output.now c.in-Ok.named c.in-Ok.ensures
