use Rattle.plan_image.proofs.PrintLemmas.{join, failed}
use Rattle.plan_image.proofs.writing.held.prints_join.Goals as goal

pub returns-clause-join : goal.returns-clause-join
returns-clause-join c = join c.writes_join.ensures.join

pub returns-clause-failed : goal.returns-clause-failed
returns-clause-failed c = failed c.writes_join.ensures.failed
