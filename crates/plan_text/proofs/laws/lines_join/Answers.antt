use Rattle.plan_text.proofs.JoinLaw.{joined}
use Rattle.plan_text.proofs.laws.lines_join.Goals as goal

pub returns : goal.returns
returns c at front back h = joined at front back 0 h
