use Rattle.plan_reasons.proofs.ReplyLemmas.{replies_are_observed}
use Rattle.plan_reasons.proofs.laws.replies_are_observed.Goals as goal

pub returns : goal.returns
returns c = replies_are_observed
