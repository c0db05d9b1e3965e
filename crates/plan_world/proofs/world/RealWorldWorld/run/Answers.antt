use Rattle.plan_world.proofs.AnswerLemmas.{may_run}
use Rattle.plan_world.proofs.world.RealWorldWorld.run.Goals as goal

pub returns : goal.returns
returns g c = may_run g.D.Disk.looked g.D.Disk.held g.S.Shells.ended c.args.permit.command c.args.outputs.now c.start.result c.start.ensures.suits c.start.ensures.no_output c.start.ensures.no_path c.start.ensures.no_text c.start.ensures.ran
