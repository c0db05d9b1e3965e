use Rattle.std.proofs.Common.{◌≡◌, ◌+◌, length, drop}
use Rattle.std.specs.List.{flat_map}
use Rattle.plan_image.specs.Spelling.{edge}
use Rattle.plan_image.proofs.sizes.each_edge_room.Given as goal

abbrev pub invariant-loop-number : goal.invariant-loop-number
invariant-loop-number l = l.room + length (flat_map edge (drop l.number l.edges)) ≡ l.left + length (flat_map edge l.edges)
