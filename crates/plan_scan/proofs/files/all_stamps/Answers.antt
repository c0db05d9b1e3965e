use Rattle.plan_scan.proofs.FileLemmas.{all}
use Rattle.plan_scan.proofs.files.all_stamps.Goals as goal

pub returns : goal.returns
returns g c = all g.W.World.allows c.args.graph.now c.len.result c.in_ok-stamps.stamps.items c.in_ok-stamps.ensures
