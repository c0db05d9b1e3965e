use Rattle.std.proofs.Common.{◌≡◌, drop}
use Rattle.plan_machine.specs.Sameness.{same_slots}
use Rattle.plan_machine.proofs.run.sameness.are_same_slots.Given as goal

abbrev pub invariant-loop-slot : goal.invariant-loop-slot
invariant-loop-slot l = same_slots (drop l.slot l.first) (drop l.slot l.second) ≡ same_slots l.first l.second
