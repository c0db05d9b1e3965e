use Rattle.plan_graph.proofs.EdgeLaws.{all_named}
use Rattle.plan_graph.proofs.laws.files_complete.Goals as goal

pub returns : goal.returns
returns c edges n e path here named = all_named edges n e path here named
