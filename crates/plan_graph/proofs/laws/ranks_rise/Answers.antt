use Rattle.plan_graph.proofs.RankLaw.{rise}
use Rattle.plan_graph.proofs.laws.ranks_rise.Goals as goal

pub returns : goal.returns
returns c waits ranks e w are h = rise waits ranks e w are h
