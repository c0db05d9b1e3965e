use Rattle.plan_depfile.proofs.SureLemmas.{none_is_sure}
use Rattle.plan_depfile.proofs.reader.Reader.feed.Goals as goal

pub returns-in-None-fault-clause-unsure : goal.returns-in-None-fault-clause-unsure
returns-in-None-fault-clause-unsure c = none_is_sure c.take.new.self c.in-None-fault.is
