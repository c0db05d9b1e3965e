use Rattle.plan_reasons.proofs.HoldLemmas.{reasons_hold}
use Rattle.plan_reasons.proofs.laws.reasons_hold.Goals as goal

pub returns : goal.returns
returns c = reasons_hold
