use Rattle.plan_verify.proofs.FactsLemmas.{tables_are_in_range}
use Rattle.plan_verify.proofs.laws.tables_are_in_range.Goals as goal

pub returns : goal.returns
returns c = tables_are_in_range
