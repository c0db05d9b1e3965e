use Rattle.std.proofs.Common.{◌≡◌, drop}
use Rattle.plan_machine.specs.Sameness.{same_paths}
use Rattle.plan_machine.proofs.run.sameness.are_same_paths.Given as goal

abbrev pub invariant-loop-number : goal.invariant-loop-number
invariant-loop-number l = same_paths (drop l.number l.first) (drop l.number l.second) ≡ same_paths l.first l.second
