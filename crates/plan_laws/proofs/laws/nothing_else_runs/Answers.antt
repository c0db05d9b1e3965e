use Rattle.plan_laws.proofs.OwnRunLemmas.{nothing_else}
use Rattle.plan_laws.proofs.laws.nothing_else_runs.Goals as goal

pub returns : goal.returns
returns c = nothing_else
