use Rattle.plan_lanes.proofs.RunningLemmas.{commands_keep_to_places}
use Rattle.plan_lanes.proofs.running.commands_keep_to_places.Goals as goal

pub returns : goal.returns
returns c = commands_keep_to_places c.marks_are_orderly.ensures
