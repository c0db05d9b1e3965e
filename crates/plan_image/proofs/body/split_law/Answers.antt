use Rattle.plan_image.proofs.BodyLemmas.{bodies_fit, split_is}
use Rattle.plan_image.proofs.body.split_law.Goals as goal

pub returns-clause-split : goal.returns-clause-split
returns-clause-split c = split_is

pub returns-clause-spelling : goal.returns-clause-spelling
returns-clause-spelling c = bodies_fit
