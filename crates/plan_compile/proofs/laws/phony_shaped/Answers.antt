use Rattle.plan_compile.proofs.EdgeShapes.{phony_shaped}
use Rattle.plan_compile.proofs.laws.phony_shaped.Goals as goal

pub returns : goal.returns
returns c = phony_shaped
