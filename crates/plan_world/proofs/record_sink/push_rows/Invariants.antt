use Rattle.std.proofs.Common.{◌≡◌, ◌++◌, drop}
use Rattle.plan_world.proofs.record_sink.push_rows.Given as goal

abbrev pub invariant-loop-number : goal.invariant-loop-number
invariant-loop-number l = l.paths.items ++ drop l.number l.rows ≡ l.initial.paths.items ++ l.rows
