use Rattle.std.proofs.Common.{◌≡◌, ◌++◌, take}
use Rattle.plan_commands.proofs.explaining.add_recorded.Given as goal

abbrev pub invariant-loop-number : goal.invariant-loop-number
invariant-loop-number l = l.rows ≡ l.fn.rows ++ take l.number l.paths
