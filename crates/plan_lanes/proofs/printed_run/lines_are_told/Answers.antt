use Rattle.plan_lanes.proofs.ObservableLemmas.{tell_all_lines}
use Rattle.plan_lanes.proofs.printed_run.lines_are_told.Goals as goal

pub returns : goal.returns
returns c = tell_all_lines
