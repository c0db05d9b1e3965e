use Rattle.plan_verify.proofs.BudgetLaw.{stays_in_budget_alone}
use Rattle.plan_verify.proofs.laws.stays_in_budget_alone.Goals as goal

pub returns : goal.returns
returns c = stays_in_budget_alone
