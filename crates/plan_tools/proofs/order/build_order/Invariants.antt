use Rattle.std.proofs.Common.{◌≡◌}
use Rattle.plan_tools.proofs.order.build_order.Given as goal

abbrev pub invariant-loop-target : goal.invariant-loop-target
invariant-loop-target l = (l.walk.graph ≡ l.fn.graph) × (l.walk.targets ≡ l.targets)
