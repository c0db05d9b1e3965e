use Rattle.plan_commands.proofs.BuildingLemmas.{HasRunNoneBelow}
use Rattle.plan_commands.proofs.building.has_run.Given as goal

abbrev pub invariant-loop-edge : goal.invariant-loop-edge
invariant-loop-edge l = HasRunNoneBelow l.report l.edge
