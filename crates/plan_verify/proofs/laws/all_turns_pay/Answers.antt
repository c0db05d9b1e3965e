use Rattle.plan_verify.proofs.BudgetLaw.{all_turns_pay}
use Rattle.plan_verify.proofs.laws.all_turns_pay.Goals as goal

pub returns : goal.returns
returns c = all_turns_pay
