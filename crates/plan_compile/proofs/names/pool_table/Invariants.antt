use Rattle.std.proofs.Common.{◌≡◌, ◌++◌, drop, map}
use Rattle.plan_compile.specs.Names.{declared}
use Rattle.plan_compile.proofs.names.pool_table.Given as goal

abbrev pub invariant-loop-number : goal.invariant-loop-number
invariant-loop-number l = l.pools.items ++ map (declared l.known) (drop l.number l.names) ≡ map (declared l.known) l.names
