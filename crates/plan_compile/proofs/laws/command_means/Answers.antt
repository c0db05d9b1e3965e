use Rattle.plan_compile.proofs.Edge.{command_means}
use Rattle.plan_compile.proofs.laws.command_means.Goals as goal

pub returns : goal.returns
returns c = command_means
