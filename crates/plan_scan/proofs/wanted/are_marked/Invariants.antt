use Rattle.std.proofs.Common.{◌≡◌, drop}
use Rattle.std.specs.List.{list_all}
use Rattle.plan_scan.specs.Steps.{is_marked}
use Rattle.plan_scan.proofs.wanted.are_marked.Given as goal

abbrev pub invariant-loop-edge : goal.invariant-loop-edge
invariant-loop-edge l = list_all (is_marked l.wanted) (drop l.edge-index l.edges) ≡ list_all (is_marked l.wanted) l.edges
