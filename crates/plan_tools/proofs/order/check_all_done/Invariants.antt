use Rattle.std.proofs.Common.{take}
use Rattle.std.specs.Prelude.{All}
use Rattle.plan_tools.specs.Order.{is_done}
use Rattle.plan_tools.proofs.order.check_all_done.Given as goal

-- those so far are done
abbrev pub invariant-loop-edge : goal.invariant-loop-edge
invariant-loop-edge l = All (is_done l.done) (take l.edge-index l.edges)
