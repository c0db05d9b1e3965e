use Rattle.std.proofs.Common.{◌≡◌, ◌+◌, drop}
use Rattle.plan_compile.specs.Slots.{slot_count}
use Rattle.plan_compile.proofs.slots.slots_room.Given as goal

abbrev pub invariant-loop-build : goal.invariant-loop-build
invariant-loop-build l = l.left + slot_count l.builds ≡ l.room + slot_count (drop l.build-index l.builds)
