use Rattle.std.proofs.Common.{◌≡◌, length, map, take}
use Rattle.plan_schedule.proofs.opening.waiting_of.Given as goal

abbrev pub invariant-loop-row : goal.invariant-loop-row
invariant-loop-row l = l.waiting.items ≡ map length (take l.row-index l.waits)
