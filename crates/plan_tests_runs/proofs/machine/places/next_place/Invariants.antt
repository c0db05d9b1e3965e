use Rattle.plan_machine.specs.Kept.{IsStateOf}
use Rattle.plan_tests_runs.proofs.machine.places.next_place.Given as goal

abbrev pub invariant-loop-i : goal.invariant-loop-i
invariant-loop-i l = IsStateOf l.image l.state
