use Rattle.std.proofs.Common.{◌≡◌, map, take}
use Rattle.plan_scope.specs.Edges.{target_at}
use Rattle.plan_scope.proofs.manifest.defaults.targets_at.Given as goal

abbrev pub invariant-loop-path : goal.invariant-loop-path
invariant-loop-path l = l.targets.items ≡ map (target_at l.edges_above) (take l.path-index l.paths)
