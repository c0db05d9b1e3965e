use Rattle.plan_graph.proofs.EdgeLaws.{producers_are_waited}
use Rattle.plan_graph.proofs.laws.producers_waited.Goals as goal

pub returns : goal.returns
returns c edges n w e path here used producer = producers_are_waited edges n w e path here used producer
