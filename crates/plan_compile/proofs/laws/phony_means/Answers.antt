use Rattle.plan_compile.proofs.Edge.{phony_means}
use Rattle.plan_compile.proofs.laws.phony_means.Goals as goal

pub returns : goal.returns
returns c = phony_means
