use Rattle.plan_verify.proofs.FitsLaw.{instructions_fit}
use Rattle.plan_verify.proofs.laws.instructions_fit.Goals as goal

pub returns : goal.returns
returns c = instructions_fit
