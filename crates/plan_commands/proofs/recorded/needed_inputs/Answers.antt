use Rattle.std.proofs.Common.{[]}
use Rattle.plan_commands.specs.Recorded.{MayLeaveIn}
use Rattle.plan_commands.proofs.RecordedLemmas.{leaves_plain, recorded_some}
use Rattle.plan_commands.proofs.recorded.needed_inputs.Goals as goal

pub without_cycles-requires-clause-recorded : goal.without_cycles-requires-clause-recorded
without_cycles-requires-clause-recorded g c =
    recorded_some g.W.World.allows c.args.manifest.now c.args.graph.now (MayLeaveIn c.args.graph.now []) c.args.recalled.now c.in_ok-additions.additions.items c.requires.graph c.requires.recalled
    (leaves_plain g.W.World.allows c.args.manifest.now c.args.graph.now c.requires.graph) c.in_ok-additions.ensures.some c.in_ok-additions.ensures.only
