use Rattle.std.proofs.Common.{◌≡◌, ◌+◌, ◌≤◌, ◌⊎◌, [], drop, length}
use Rattle.plan_lanes.specs.StampRows.{HaveStamps}
use Rattle.plan_lanes.proofs.stamp_row.stamps_from.Given as goal

abbrev pub invariant-loop-place : goal.invariant-loop-place
invariant-loop-place g l =
    (l.fn.from + length l.stamps.items ≡ l.place) × ((l.stamps.items ≡ []) ⊎ (l.fn.from + length l.stamps.items ≤ length l.paths)) × HaveStamps g.W.World.allows (drop l.fn.from l.paths) l.stamps.items
