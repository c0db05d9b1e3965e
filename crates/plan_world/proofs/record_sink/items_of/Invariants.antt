use Rattle.std.proofs.Common.{◌≡◌, take}
use Rattle.plan_world.proofs.record_sink.items_of.Given as goal

abbrev pub invariant-loop-number : goal.invariant-loop-number
invariant-loop-number l = l.items.items ≡ take l.number l.paths
