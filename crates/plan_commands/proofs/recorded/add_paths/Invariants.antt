use Rattle.std.proofs.Common.{◌≡◌, ◌++◌, take}
use Rattle.plan_commands.proofs.recorded.add_paths.Given as goal

abbrev pub invariant-loop-place : goal.invariant-loop-place
invariant-loop-place l = l.filter ≡ l.fn.filter ++ take l.place l.paths
