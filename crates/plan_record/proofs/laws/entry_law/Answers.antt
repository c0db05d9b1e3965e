use Rattle.plan_record.proofs.EntryLemmas.{prefix_free}
use Rattle.plan_record.proofs.laws.entry_law.Goals as goal

pub returns : goal.returns
returns c = prefix_free
