use Rattle.plan_status.proofs.LinesLemmas.{join}
use Rattle.plan_status.proofs.laws.lines_join.Goals as goal

pub returns : goal.returns
returns c = join
