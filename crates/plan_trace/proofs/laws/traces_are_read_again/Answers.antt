use Rattle.plan_trace.proofs.ReadAgain.{read_again}
use Rattle.plan_trace.proofs.laws.traces_are_read_again.Goals as goal

pub returns : goal.returns
returns c = read_again
