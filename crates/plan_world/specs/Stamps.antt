-- The time at which a file was last changed, as a number.
use Rattle.std.specs.Prelude.{ℕ, ◌+◌, ◌-◌, ◌*◌, ◌^◌, min, max, ℤ, pos, Option, Some, None}
use Rattle.plan_world.specs.declared.disk.ModificationTime.{ModificationTime}

-- Converts seconds and nanoseconds into nanoseconds since 1970. The result is at least 1, since 0 means that a file is
-- missing, and at most the greatest stamp. A time before 1970 is 1.
abbrev pub stamp_of : (seconds nanoseconds : ℤ) → ℕ
stamp_of (pos seconds) (pos nanoseconds) = max 1 (min (2 ^ 64 - 1) (seconds * 1000000000 + nanoseconds))
stamp_of _ _ = 1

-- the stamp of a file that was last changed at this time, or of a missing one
abbrev pub stamp_at : Option ModificationTime → ℕ
stamp_at (Some time) = stamp_of time.seconds time.nanoseconds
stamp_at None = 0
