use Rattle.plan_compile.proofs.EdgeLemmas.{faithful}
use Rattle.plan_compile.proofs.image_laws.image_is_faithful.Goals as goal

pub returns : goal.returns
returns c = faithful
