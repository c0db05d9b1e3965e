use Rattle.plan_lanes.proofs.LocalRunLemmas.{goes_none}
use Rattle.plan_lanes.proofs.batch.BatchItem.apply_replies.Goals as goal

pub returns-in_default-reply-clause-goes : goal.returns-in_default-reply-clause-goes
returns-in_default-reply-clause-goes g c = goes_none c.args.shared.now.run c.stop.new.self.run c.stop.ensures.run
