use Rattle.std.proofs.Common.{◌≡◌, ◌++◌, drop}
use Rattle.plan_commands.proofs.recorded.both_paths.Given as goal

abbrev pub invariant-loop-number : goal.invariant-loop-number
invariant-loop-number l = l.first ++ drop l.number l.second ≡ l.fn.first ++ l.second
