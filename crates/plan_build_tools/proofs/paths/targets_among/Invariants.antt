use Rattle.std.proofs.Common.{◌≡◌, ◌++◌, drop}
use Rattle.plan_build_tools.specs.Naming.{made_paths}
use Rattle.plan_build_tools.proofs.paths.targets_among.Given as goal

-- the targets so far, and those that follow
abbrev pub invariant-loop-number : goal.invariant-loop-number
invariant-loop-number g l = l.targets ++ made_paths l.graph (drop l.number-index l.numbers) ≡ made_paths l.graph l.numbers
