use Rattle.plan_commands.proofs.RecordedLemmas.{all_recalled}
use Rattle.plan_commands.proofs.recorded.recalled_paths.Goals as goal

pub returns : goal.returns
returns g c = all_recalled g.W.World.allows c.args.edges.now c.len.result c.in_ok-additions.additions.items c.len.ensures c.in_ok-additions.ensures
