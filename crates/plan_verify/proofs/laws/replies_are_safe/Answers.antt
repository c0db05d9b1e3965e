use Rattle.plan_verify.proofs.StepsLaw.{replies_are_safe}
use Rattle.plan_verify.proofs.laws.replies_are_safe.Goals as goal

pub returns : goal.returns
returns c = replies_are_safe
