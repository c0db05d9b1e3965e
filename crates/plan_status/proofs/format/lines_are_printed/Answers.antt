use Rattle.plan_status.proofs.FormatLemmas.{lines_printed}
use Rattle.plan_status.proofs.format.lines_are_printed.Goals as goal

pub returns : goal.returns
returns c = lines_printed c.prints_join.ensures.stopped
