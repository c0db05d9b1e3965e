use Rattle.plan_laws.proofs.EndLemmas.{ends_are_plain}
use Rattle.plan_laws.proofs.laws.ends_are_plain.Goals as goal

pub returns : goal.returns
returns c = ends_are_plain
