use Rattle.plan_status.proofs.LiveLemmas.{feed_stays, shown_is_free, line_progress_stays, unused_is_fed}
use Rattle.plan_status.proofs.laws.marks_may_come.Goals as goal

pub returns-clause-fed : goal.returns-clause-fed
returns-clause-fed c = feed_stays

pub returns-clause-unused : goal.returns-clause-unused
returns-clause-unused c = unused_is_fed

pub returns-clause-shows : goal.returns-clause-shows
returns-clause-shows c = line_progress_stays

pub returns-clause-free : goal.returns-clause-free
returns-clause-free c = shown_is_free
