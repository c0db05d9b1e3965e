use Rattle.plan_compile.proofs.OnceLemmas.{one_assignment}
use Rattle.plan_compile.proofs.image_laws.one_assignment.Goals as goal

pub returns : goal.returns
returns c = one_assignment
