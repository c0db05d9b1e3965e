use Rattle.plan_status.proofs.PrintingLemmas.{join, stopped}
use Rattle.plan_status.proofs.laws.prints_join.Goals as goal

pub returns-clause-join : goal.returns-clause-join
returns-clause-join c = join c.writes_join.ensures.join

pub returns-clause-stopped : goal.returns-clause-stopped
returns-clause-stopped c = stopped c.writes_join.ensures.failed
