use Rattle.plan_reasons.proofs.RunLemmas.{commands_have_reasons}
use Rattle.plan_reasons.proofs.laws.commands_have_reasons.Goals as goal

pub returns : goal.returns
returns c = commands_have_reasons
