use Rattle.plan_machine.proofs.ByItselfLemmas.{each_ran_by_itself}
use Rattle.plan_machine.proofs.laws.each_ran_by_itself.Goals as goal

pub returns : goal.returns
returns c = each_ran_by_itself c.turn_laws.ensures c.goes_on_alone.ensures
