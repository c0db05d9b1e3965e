use Rattle.plan_graph.proofs.EdgeLaws.{none_twice}
use Rattle.plan_graph.proofs.laws.files_distinct.Goals as goal

pub returns : goal.returns
returns c edges = none_twice edges
