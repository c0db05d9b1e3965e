use Rattle.std.proofs.Common.{◌≡◌, ◌++◌, drop}
use Rattle.plan_tools.specs.Roots.{target_paths}
use Rattle.plan_tools.proofs.roots.numbers_of.Given as goal

-- the numbers so far, and those that follow
abbrev pub invariant-loop-target : goal.invariant-loop-target
invariant-loop-target l = l.numbers.items ++ target_paths l.graph (drop l.target-index l.targets) ≡ target_paths l.graph l.targets
