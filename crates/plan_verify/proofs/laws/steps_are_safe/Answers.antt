use Rattle.plan_verify.proofs.StepsLaw.{steps_are_safe}
use Rattle.plan_verify.proofs.laws.steps_are_safe.Goals as goal

pub returns : goal.returns
returns c = steps_are_safe
