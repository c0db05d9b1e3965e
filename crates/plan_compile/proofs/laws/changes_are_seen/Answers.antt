use Rattle.plan_compile.proofs.StricterLemmas.{changes_are_seen}
use Rattle.plan_compile.proofs.laws.changes_are_seen.Goals as goal

pub returns : goal.returns
returns c = changes_are_seen
