use Rattle.plan_verify.proofs.FactsLemmas.{verified_never_goes_wrong}
use Rattle.plan_verify.proofs.laws.verified_never_goes_wrong.Goals as goal

pub returns : goal.returns
returns c = verified_never_goes_wrong
