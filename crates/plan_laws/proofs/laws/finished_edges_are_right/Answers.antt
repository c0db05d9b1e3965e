use Rattle.plan_laws.proofs.RightLemmas.{finished_edges_are_right}
use Rattle.plan_laws.proofs.laws.finished_edges_are_right.Goals as goal

pub returns : goal.returns
returns g0 c = finished_edges_are_right g0.W.World.allows c.runs_keep_to_manifest.ensures c.ends_are_plain.ensures c.each_ran_by_itself.ensures c.slots_stay.ensures c.image_keeps_to_rule.ensures c.image_is_shaped.ensures c.manifests_are_sound.ensures c.image_is_laid_out.ensures
