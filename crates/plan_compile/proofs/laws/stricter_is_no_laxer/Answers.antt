use Rattle.plan_compile.proofs.StricterLemmas.{stricter_is_no_laxer}
use Rattle.plan_compile.proofs.laws.stricter_is_no_laxer.Goals as goal

pub returns : goal.returns
returns c = stricter_is_no_laxer
