-- The removal of a number from its position.
use Rattle.std.specs.Prelude.{◌≡◌, ℕ, map, length}
use Rattle.plan_schedule.specs.declared.buckets.Positions.{Positions}
use Rattle.plan_schedule.specs.Positions.{ArePositions, ArePositionsBut}

abbrev pub HasPositions : Positions → Type 0
HasPositions s = ArePositions s.rows.items s.lens.items s.places.items s.bucket.items

abbrev pub LacksPosition : ℕ → Positions → Type 0
LacksPosition e s = ArePositionsBut e s.rows.items s.lens.items s.places.items s.bucket.items

pub record Removes (e : ℕ) (old new : Positions) : Type 0 where
  pub in_position : ArePositionsBut e new.rows.items new.lens.items new.places.items new.bucket.items
  pub bucket : new.bucket.items ≡ old.bucket.items
  pub capacity : map length new.rows.items ≡ map length old.rows.items
