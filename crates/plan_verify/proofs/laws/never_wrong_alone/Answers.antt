use Rattle.plan_verify.proofs.AloneLaw.{never_wrong_alone}
use Rattle.plan_verify.proofs.laws.never_wrong_alone.Goals as goal

pub returns : goal.returns
returns c = never_wrong_alone
