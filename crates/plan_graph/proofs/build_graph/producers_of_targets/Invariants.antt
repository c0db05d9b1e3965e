use Rattle.std.proofs.Common.{◌≡◌, ◌++◌, None, drop, map}
use Rattle.plan_graph.specs.Fitting.{producers}
use Rattle.plan_graph.proofs.build_graph.producers_of_targets.Given as goal

abbrev pub invariant-loop-target : goal.invariant-loop-target
invariant-loop-target l = l.numbers.items ++ producers l.files None (map (λ t. t.path) (drop l.target-index l.targets)) ≡ producers l.files None (map (λ t. t.path) l.targets)
