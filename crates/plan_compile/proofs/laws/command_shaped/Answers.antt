use Rattle.plan_compile.proofs.EdgeShapes.{command_shaped}
use Rattle.plan_compile.proofs.laws.command_shaped.Goals as goal

pub returns : goal.returns
returns c = command_shaped
