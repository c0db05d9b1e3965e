use Rattle.plan_scope.proofs.ExtendedLemmas.{extended_same}
use Rattle.plan_scope.proofs.laws.extended_runs_the_same.Goals as goal

pub returns : goal.returns
returns c = extended_same
