use Rattle.plan_reasons.proofs.ReasonLemmas.{reasons_are_causes}
use Rattle.plan_reasons.proofs.laws.reasons_are_causes.Goals as goal

pub returns : goal.returns
returns c = reasons_are_causes
