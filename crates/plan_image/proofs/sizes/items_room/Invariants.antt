use Rattle.std.proofs.Common.{◌≡◌, ◌+◌, length, drop}
use Rattle.std.specs.List.{flat_map}
use Rattle.plan_image.proofs.sizes.items_room.Given as goal

abbrev pub invariant-loop-item : goal.invariant-loop-item
invariant-loop-item g l = l.room + length (flat_map g.M.Measured.spell (drop l.item-index l.items)) ≡ l.left + length (flat_map g.M.Measured.spell l.items)
