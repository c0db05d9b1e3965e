use Rattle.plan_machine.proofs.StayLemmas.{slots_stay}
use Rattle.plan_machine.proofs.laws.slots_stay.Goals as goal

pub returns : goal.returns
returns c = slots_stay c.turn_laws.ensures
