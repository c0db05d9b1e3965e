use Rattle.std.proofs.Common.{◌≡◌, ◌<◌, ◌++◌, List, ℕ}
use Rattle.std.specs.Prelude.{All}
use Rattle.plan_graph.specs.FurtherWaits.{IsFurther}
use Rattle.plan_graph.proofs.further_waits.push_makers.Given as goal

abbrev pub invariant-loop-place : goal.invariant-loop-place
invariant-loop-place l = (added : List ℕ) × (l.row.items ≡ l.fn.row.items ++ added) × All (λ w. (w < l.count) × IsFurther l.more l.edge w) added
