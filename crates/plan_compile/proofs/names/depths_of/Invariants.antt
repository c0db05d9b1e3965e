use Rattle.std.proofs.Common.{drop}
use Rattle.plan_compile.specs.PoolDepths.{AreDepths}
use Rattle.plan_compile.proofs.names.depths_of.Given as goal

abbrev pub invariant-loop-number : goal.invariant-loop-number
invariant-loop-number l = AreDepths (drop l.number l.pools) l.depths
