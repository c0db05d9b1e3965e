use Rattle.std.proofs.Common.{◌≡◌, true}
use Rattle.plan_status.specs.Outcomes.{are_done}
use Rattle.plan_status.proofs.outcomes.all_done.Given as goal

abbrev pub invariant-loop-number : goal.invariant-loop-number
invariant-loop-number l = are_done l.state.run_state.now l.number ≡ true
