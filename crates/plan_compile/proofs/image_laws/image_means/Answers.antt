use Rattle.plan_compile.proofs.LawLemmas.{image_means}
use Rattle.plan_compile.proofs.image_laws.image_means.Goals as goal

pub returns : goal.returns
returns c = image_means c.split_law.ensures.split c.command_means.ensures c.phony_means.ensures
