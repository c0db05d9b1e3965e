use Rattle.plan_machine.proofs.InBudgetLemmas.{stays_in_budget}
use Rattle.plan_machine.proofs.laws.stays_in_budget.Goals as goal

pub returns : goal.returns
returns c = stays_in_budget c.turn_laws.ensures
