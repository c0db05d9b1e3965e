use Rattle.std.proofs.Common.{◌≡◌, ◌<◌, ℕ, length, map, take}
use Rattle.std.specs.Prelude.{slice_index}
use Rattle.plan_schedule.specs.Positions.{number_at}
use Rattle.plan_schedule.proofs.buckets.rows.Given as goal

abbrev pub invariant-loop-capacity : goal.invariant-loop-capacity
invariant-loop-capacity l = (map length l.rows.items ≡ take l.capacity-index l.capacities) × ((s i : ℕ) → s < l.capacity-index → i < slice_index l.capacities s → number_at l.rows.items s i ≡ i)
