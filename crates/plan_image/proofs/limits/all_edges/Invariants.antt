use Rattle.std.proofs.Common.{◌↔◌, drop}
use Rattle.std.specs.List.{AllByRecursion}
use Rattle.plan_image.proofs.limits.all_edges.Given as goal

-- all items pass if and only if those that are left pass
abbrev pub invariant-loop-number : goal.invariant-loop-number
invariant-loop-number g l = AllByRecursion g.T.EdgeTest.holds (drop l.number l.edges) ↔ AllByRecursion g.T.EdgeTest.holds l.edges
