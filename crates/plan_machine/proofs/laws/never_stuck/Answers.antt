use Rattle.plan_machine.proofs.NeverStuckLemmas.{never_stuck}
use Rattle.plan_machine.proofs.laws.never_stuck.Goals as goal

pub returns : goal.returns
returns c = never_stuck c.turn_laws.ensures
