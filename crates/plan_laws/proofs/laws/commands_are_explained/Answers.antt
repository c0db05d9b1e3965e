use Rattle.plan_laws.proofs.ExplainLemmas.{commands_are_explained}
use Rattle.plan_laws.proofs.laws.commands_are_explained.Goals as goal

pub returns : goal.returns
returns c =
    commands_are_explained c.each_ran_by_itself.ensures c.image_keeps_to_rule.ensures c.image_is_shaped.ensures c.manifests_are_sound.ensures c.image_is_laid_out.ensures c.commands_have_reasons.ensures
