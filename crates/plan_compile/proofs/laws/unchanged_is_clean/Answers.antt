use Rattle.plan_compile.proofs.StricterLemmas.{unchanged_is_clean}
use Rattle.plan_compile.proofs.laws.unchanged_is_clean.Goals as goal

pub returns : goal.returns
returns c = unchanged_is_clean
