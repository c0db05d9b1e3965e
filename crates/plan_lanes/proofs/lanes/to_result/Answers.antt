use Rattle.std.proofs.Common.{◌∙◌, sym}
use Rattle.plan_lanes.proofs.lanes.to_result.Goals as goal

pub returns-clause-ended : goal.returns-clause-ended
returns-clause-ended c = λ p is. sym (c.ended.ensures p is) ∙ c.if-not-ended.false
