-- The results of replaying events.
use Rattle.std.specs.Prelude.{◌≡◌, ◌⊎◌, ℕ, ◌≤◌, List, [], ◌∷◌, ◌++◌, length, take, slice_get, Some, false, true}
use Rattle.plan_image.specs.declared.image.Parts.{Parts}
use Rattle.plan_machine.specs.Limits.{Limits}
use Rattle.plan_machine.specs.declared.event.Event.{Event}
use Rattle.plan_machine.specs.declared.event.Mark.{Mark}
use Rattle.plan_machine.specs.declared.run.refused.Refused.{Refused}
use Rattle.plan_machine.specs.declared.run.refused.Refused.TheVariants as refused
use Rattle.plan_machine.specs.State.{State}
use Rattle.plan_machine.specs.RunState.{RunState}
use Rattle.plan_machine.specs.Step.{Next, NotEnabled, step}
use Rattle.plan_machine.specs.Depfile.{depfile}
use Rattle.plan_machine.specs.Runs.{Opens, Runs}
use Rattle.plan_machine.specs.Wanted.{any_outside}

-- an event was applied, and its mark was appended
pub record Went (p : Parts) (old : RunState) (event : Event) (marks : List Mark) (new : RunState) (after : List Mark) : Type 0 where
  pub told : Mark
  pub did : step depfile p old.limits old.now event ≡ Next new.now told
  pub limits : new.limits ≡ old.limits
  pub kept : after ≡ marks ++ told ∷ []

-- events were applied, one after another, and their marks were appended
pub record RunsTo (p : Parts) (old : RunState) (events : List Event) (marks : List Mark) (new : RunState) : Type 0 where
  pub run : Runs depfile p old.limits old.now events marks new.now
  pub limits : new.limits ≡ old.limits

-- the events before an index were applied, and the one at it isn't enabled then
pub record StopsFrom (p : Parts) (limits : Limits) (start : State) (events : List Event) (n : ℕ) : Type 0 where
  pub marks : List Mark
  pub before : State
  pub run : Runs depfile p limits start (take n events) marks before
  pub event : Event
  pub there : slice_get events n ≡ Some event
  pub refused : step depfile p limits before event ≡ NotEnabled

-- the events before an index were applied
pub record RunsBefore (p : Parts) (limits : Limits) (start : State) (events : List Event) (n : ℕ) : Type 0 where
  pub within : n ≤ length events
  pub marks : List Mark
  pub before : State
  pub run : Runs depfile p limits start (take n events) marks before

-- the reason why events weren't applied, and the index: the first event that isn't enabled, or memory that ran
-- out after the applied ones
abbrev pub IsStop : Parts → Limits → State → List Event → ℕ → Refused → Type 0
IsStop p limits start events n refused.NotEnabled = StopsFrom p limits start events n
IsStop p limits start events n refused.Memory = RunsBefore p limits start events n
IsStop p limits start events n refused.BadTarget = ⊥

-- the reason why events weren't replayed: a target is outside the image, they weren't applied from the opening
-- state, or the opening state couldn't be created
abbrev pub IsReplayFault : Parts → Limits → List ℕ → List Event → ℕ → Refused → Type 0
IsReplayFault p limits targets events n refused.NotEnabled = (start : State) × Opens p targets start × StopsFrom p limits start events n
IsReplayFault p limits targets events n refused.Memory = (any_outside p targets ≡ false) × ((n ≡ 0) ⊎ ((start : State) × Opens p targets start × RunsBefore p limits start events n))
IsReplayFault p limits targets events n refused.BadTarget = (n ≡ 0) × (any_outside p targets ≡ true)
