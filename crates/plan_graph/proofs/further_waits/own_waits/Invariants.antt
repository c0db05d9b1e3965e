use Rattle.std.proofs.Common.{◌<◌, length}
use Rattle.std.specs.Prelude.{All}
use Rattle.plan_graph.specs.Cycles.{WaitsFor}
use Rattle.plan_graph.proofs.further_waits.own_waits.Given as goal

abbrev pub invariant-loop-place : goal.invariant-loop-place
invariant-loop-place l = All (λ w. (w < length l.waits) × WaitsFor l.waits l.edge w) l.row.items
