use Rattle.plan_compile.proofs.LawLemmas.{image_is_shaped}
use Rattle.plan_compile.proofs.image_laws.image_is_shaped.Goals as goal

pub returns : goal.returns
returns c = image_is_shaped c.split_law.ensures.split c.command_shaped.ensures c.phony_shaped.ensures
