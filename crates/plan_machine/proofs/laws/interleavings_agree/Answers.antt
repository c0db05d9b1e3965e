use Rattle.plan_machine.proofs.AgreementLemmas.{interleavings_agree}
use Rattle.plan_machine.proofs.laws.interleavings_agree.Goals as goal

pub returns : goal.returns
returns c = interleavings_agree c.turn_laws.ensures
