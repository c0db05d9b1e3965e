use Rattle.plan_compile.proofs.LayoutLemmas.{laid_out}
use Rattle.plan_compile.proofs.image_laws.image_is_laid_out.Goals as goal

pub returns : goal.returns
returns c = laid_out
