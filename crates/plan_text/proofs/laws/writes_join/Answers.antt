use Rattle.plan_text.proofs.SinkLemmas.{join, failed}
use Rattle.plan_text.proofs.laws.writes_join.Goals as goal

pub returns-clause-join : goal.returns-clause-join
returns-clause-join c well a b d xs ys h k = join well a b d xs ys h k

pub returns-clause-failed : goal.returns-clause-failed
returns-clause-failed c a b xs ys h = failed a b xs ys h
