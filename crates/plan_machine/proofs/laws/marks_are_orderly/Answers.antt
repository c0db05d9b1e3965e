use Rattle.plan_machine.proofs.OrderlyLemmas.{marks_are_orderly}
use Rattle.plan_machine.proofs.laws.marks_are_orderly.Goals as goal

pub returns : goal.returns
returns c = marks_are_orderly c.turn_laws.ensures
