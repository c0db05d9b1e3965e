use Rattle.std.proofs.Common.{◌≡◌, ◌++◌}
use Rattle.std.specs.Vec.Iter.{into_iter_items}
use Rattle.plan_commands.proofs.recorded.joined.Given as goal

abbrev pub invariant-loop-addition : goal.invariant-loop-addition
invariant-loop-addition l = (l.first.items ≡ l.fn.first.items ++ l.yielded) × (l.yielded ++ into_iter_items l.addition-iterator ≡ l.fn.second.items)
