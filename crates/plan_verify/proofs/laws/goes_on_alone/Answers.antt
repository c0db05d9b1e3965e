use Rattle.plan_verify.proofs.AloneLaw.{goes_on_alone}
use Rattle.plan_verify.proofs.laws.goes_on_alone.Goals as goal

pub returns : goal.returns
returns c = goes_on_alone
