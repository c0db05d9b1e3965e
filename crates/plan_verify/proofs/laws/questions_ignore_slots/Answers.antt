use Rattle.plan_verify.proofs.QuestionsLaw.{questions_ignore_slots}
use Rattle.plan_verify.proofs.laws.questions_ignore_slots.Goals as goal

pub returns : goal.returns
returns c = questions_ignore_slots
