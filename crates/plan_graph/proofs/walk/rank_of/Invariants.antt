use Rattle.std.proofs.Common.{◌≡◌, max, drop}
use Rattle.plan_graph.specs.Cycles.{rank_over}
use Rattle.plan_graph.proofs.walk.rank_of.Given as goal

abbrev pub invariant-loop-wait : goal.invariant-loop-wait
invariant-loop-wait l = max l.greatest (rank_over l.ranks (drop l.wait-index l.row)) ≡ rank_over l.ranks l.row
