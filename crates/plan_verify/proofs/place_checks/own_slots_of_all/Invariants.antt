use Rattle.plan_verify.specs.OwnSlots.{AreCounted}
use Rattle.plan_verify.proofs.place_checks.own_slots_of_all.Given as goal

abbrev pub invariant-loop-slot : goal.invariant-loop-slot
invariant-loop-slot l = AreCounted l.parts l.slot-index l.edges.items
