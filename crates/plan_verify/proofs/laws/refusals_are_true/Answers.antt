use Rattle.plan_verify.proofs.FactsLemmas.{refusals_are_true}
use Rattle.plan_verify.proofs.laws.refusals_are_true.Goals as goal

pub returns : goal.returns
returns c = refusals_are_true
