use Rattle.plan_verify.proofs.QuestionsLaw.{stays_typed}
use Rattle.plan_verify.proofs.laws.stays_typed.Goals as goal

pub returns : goal.returns
returns c = stays_typed
