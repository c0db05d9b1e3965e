use Rattle.plan_parse.proofs.FaultLaw.{all_placed}
use Rattle.plan_parse.proofs.laws.faults_have_places.Goals as goal

pub returns : goal.returns
returns c text fault e = all_placed text fault e
