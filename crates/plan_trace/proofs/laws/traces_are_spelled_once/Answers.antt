use Rattle.plan_trace.proofs.SpellingLaw.{spelled_once}
use Rattle.plan_trace.proofs.laws.traces_are_spelled_once.Goals as goal

pub returns : goal.returns
returns c = spelled_once
