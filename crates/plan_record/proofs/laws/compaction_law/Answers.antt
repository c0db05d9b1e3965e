use Rattle.plan_record.proofs.CompactionLemmas.{stand_for}
use Rattle.plan_record.proofs.laws.compaction_law.Goals as goal

pub returns : goal.returns
returns c = stand_for
