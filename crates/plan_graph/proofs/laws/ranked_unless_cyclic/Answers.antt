use Rattle.plan_graph.specs.Graph.{all_waits}
use Rattle.plan_graph.proofs.BuildGraphLemmas.{waits_range}
use Rattle.plan_graph.proofs.RankLaw.{no_cycle, ranked}
use Rattle.plan_graph.proofs.laws.ranked_unless_cyclic.Goals as goal

pub returns : goal.returns
returns c edges = (λ r es h. no_cycle (all_waits edges) r.0 es r.1 h, λ acyclic. ranked (all_waits edges) (waits_range edges) acyclic)
