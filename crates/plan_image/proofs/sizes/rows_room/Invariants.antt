use Rattle.std.proofs.Common.{◌≡◌, ◌+◌, length, drop}
use Rattle.std.specs.List.{flat_map}
use Rattle.plan_image.proofs.sizes.rows_room.Given as goal

abbrev pub invariant-loop-number : goal.invariant-loop-number
invariant-loop-number g l = l.room + length (flat_map g.M.TextMeasure.spell (drop l.number l.rows)) ≡ l.left + length (flat_map g.M.TextMeasure.spell l.rows)
