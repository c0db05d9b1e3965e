use Rattle.plan_tools.specs.Order.{GoesOn}
use Rattle.plan_tools.proofs.order.Walk.visit.Given as goal

abbrev pub invariant-loop : goal.invariant-loop
invariant-loop l = GoesOn l.fn.self l.self
