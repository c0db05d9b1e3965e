-- The phases of edges before any has begun.
use Rattle.std.specs.Prelude.{◌==◌, if◌then◌else◌, Bool, true, false, ℕ}
use Rattle.plan_schedule.specs.declared.phase.Phase.{Phase}
use Rattle.plan_schedule.specs.declared.phase.Phase.TheVariants.{Unbegun, NotWanted}
use Rattle.plan_schedule.specs.declared.bucket_rules.EdgeBucket.{EdgeBucket}
use Rattle.plan_schedule.specs.declared.bucket_rules.EdgeBucket.TheVariants.{Resting, Pending, Startable}

-- the phase of an edge that is wanted or not
abbrev pub opening_phase : Bool → Phase
opening_phase true = Unbegun
opening_phase false = NotWanted

-- the bucket of an edge that is wanted or not, and has this number of waits
abbrev pub opening_bucket : Bool → ℕ → EdgeBucket
opening_bucket true waiting = if waiting == 0 then Startable else Pending
opening_bucket false waiting = Resting
