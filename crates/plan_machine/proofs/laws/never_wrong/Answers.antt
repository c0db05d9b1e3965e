use Rattle.plan_machine.proofs.OpensLemmas.{never_wrong}
use Rattle.plan_machine.proofs.laws.never_wrong.Goals as goal

pub returns : goal.returns
returns c = never_wrong c.turn_laws.ensures
