use Rattle.plan_graph.proofs.EdgeLaws.{waits_in_order}
use Rattle.plan_graph.proofs.laws.waits_ascend.Goals as goal

pub returns : goal.returns
returns c edges n = waits_in_order edges n
