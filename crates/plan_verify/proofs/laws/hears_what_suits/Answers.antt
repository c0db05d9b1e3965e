use Rattle.plan_verify.proofs.QuestionsLaw.{hears_what_suits}
use Rattle.plan_verify.proofs.laws.hears_what_suits.Goals as goal

pub returns : goal.returns
returns c = hears_what_suits
