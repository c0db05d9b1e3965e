use Rattle.plan_laws.proofs.RightLemmas.{finished_runs_are_right}
use Rattle.plan_laws.proofs.laws.finished_runs_are_right.Goals as goal

pub returns : goal.returns
returns g0 c = finished_runs_are_right g0.W.World.allows c.finished_edges_are_right.ensures c.image_is_faithful.ensures
