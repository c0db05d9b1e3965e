use Rattle.std.proofs.Common.{◌≡◌, drop}
use Rattle.plan_machine.specs.Sameness.{same_statuses}
use Rattle.plan_machine.proofs.run.sameness.are_same_statuses.Given as goal

abbrev pub invariant-loop-edge : goal.invariant-loop-edge
invariant-loop-edge l = same_statuses (drop l.edge l.first) (drop l.edge l.second) ≡ same_statuses l.first l.second
