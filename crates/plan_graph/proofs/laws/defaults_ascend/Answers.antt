use Rattle.plan_graph.proofs.EdgeLaws.{defaults_in_order}
use Rattle.plan_graph.proofs.laws.defaults_ascend.Goals as goal

pub returns : goal.returns
returns c edges defaults = defaults_in_order edges defaults
