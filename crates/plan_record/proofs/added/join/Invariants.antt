use Rattle.std.proofs.Common.{◌≡◌, take}
use Rattle.plan_chunks.specs.Joining.{joined}
use Rattle.plan_record.proofs.added.join.Given as goal

abbrev pub invariant-loop-number : goal.invariant-loop-number
invariant-loop-number l = l.bytes.items ≡ joined l.chunks (take l.number-index l.numbers)
