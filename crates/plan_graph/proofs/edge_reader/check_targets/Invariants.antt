use Rattle.std.proofs.Common.{◌≡◌, drop}
use Rattle.plan_graph.specs.Reading as reading
use Rattle.plan_graph.proofs.edge_reader.check_targets.Given as goal

abbrev pub invariant-loop-target : goal.invariant-loop-target
invariant-loop-target l = reading.with_targets l.files (drop l.target-index l.targets) ≡ reading.with_targets l.files l.targets
