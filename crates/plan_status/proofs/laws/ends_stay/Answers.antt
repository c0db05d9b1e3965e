use Rattle.plan_status.proofs.LiveLemmas as lemma
use Rattle.plan_status.proofs.laws.ends_stay.Goals as goal

pub returns-clause-ends : goal.returns-clause-ends
returns-clause-ends c = lemma.ends_stay

pub returns-clause-joins : goal.returns-clause-joins
returns-clause-joins c = lemma.feeds_join
