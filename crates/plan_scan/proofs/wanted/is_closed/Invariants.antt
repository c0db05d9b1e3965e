use Rattle.plan_scan.specs.Steps.{IsClosedBelow}
use Rattle.plan_scan.proofs.wanted.is_closed.Given as goal

abbrev pub invariant-loop-edge : goal.invariant-loop-edge
invariant-loop-edge l = IsClosedBelow l.waits l.wanted l.edge
