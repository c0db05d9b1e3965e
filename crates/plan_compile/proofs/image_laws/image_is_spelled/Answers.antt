use Rattle.plan_compile.proofs.SpellingLemmas.{image_is_spelled}
use Rattle.plan_compile.proofs.image_laws.image_is_spelled.Goals as goal

pub returns : goal.returns
returns c = image_is_spelled c.split_law.ensures.split c.waits_ascend.ensures c.defaults_ascend.ensures
