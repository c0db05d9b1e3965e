use Rattle.std.proofs.Common.{◌≡◌, ℕ, [], get_or, length}
use Rattle.plan_graph.specs.FurtherWaits.{IsRow}
use Rattle.plan_graph.proofs.further_waits.rows_with.Given as goal

abbrev pub invariant-loop-edge : goal.invariant-loop-edge
invariant-loop-edge l = (length l.rows ≡ l.edge) × ((e : ℕ) → IsRow l.waits l.more e (get_or l.rows e []))
