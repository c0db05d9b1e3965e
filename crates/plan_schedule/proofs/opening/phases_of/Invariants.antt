use Rattle.std.proofs.Common.{◌≡◌, map, take}
use Rattle.plan_schedule.specs.Opening.{opening_phase}
use Rattle.plan_schedule.proofs.opening.phases_of.Given as goal

abbrev pub invariant-loop-is : goal.invariant-loop-is
invariant-loop-is l = l.phases.items ≡ map opening_phase (take l.is-index l.wanted)
