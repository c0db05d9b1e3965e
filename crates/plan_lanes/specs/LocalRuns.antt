-- Many events of a board at once.
use Rattle.std.specs.Prelude.{◌≡◌, ℕ, List, ◌∷◌, ◌++◌}
use Rattle.plan_machine.specs.declared.event.Event.{Event}
use Rattle.plan_machine.specs.declared.event.Event.TheVariants.{Reply as Hear}
use Rattle.plan_machine.specs.declared.event.Mark.{Mark}
use Rattle.plan_machine.specs.declared.event.reply.Reply.{Reply}
use Rattle.plan_machine.specs.declared.run.local_runs.LocalRun.{LocalRun}
use Rattle.plan_machine.specs.Depfile.{depfile}
use Rattle.plan_machine.specs.Runs.{Runs}
use Rattle.plan_machine.specs.LocalRuns.{local_run_events, local_run_marks}
use Rattle.plan_machine.specs.Sweeping.{row_events, row_marks}
use Rattle.plan_lanes.specs.Progress.{Progress}
use Rattle.plan_lanes.specs.ObservableMarks.{observable}

-- events were applied, one after another, and are journaled, with their observable marks
pub record AppliesAll (old new : Progress) (events : List Event) (told : List Mark) : Type 0 where
  pub opened : new.opened ≡ old.opened
  pub run : Runs depfile old.opened.parts old.opened.limits old.state events told new.state
  pub journal : new.journal ≡ old.journal ++ events
  pub marks : new.marks ≡ old.marks ++ observable told

-- an edge made a local run
abbrev pub Rushes : Progress → Progress → ℕ → LocalRun → Type 0
Rushes old new e r = AppliesAll old new (local_run_events e r) (local_run_marks e r)

-- a reply was applied to an edge, which then made a local run
abbrev pub Follows : Progress → Progress → ℕ → Reply → LocalRun → Type 0
Follows old new e reply r = (told : Mark) × AppliesAll old new (Hear e reply ∷ local_run_events e r) (told ∷ local_run_marks e r)

-- the stamps of paths that an edge goes through were applied, and after each the edge asked for the next path
abbrev pub SweepsRow : Progress → Progress → ℕ → List ℕ → Type 0
SweepsRow old new e stamps = AppliesAll old new (row_events e stamps) (row_marks e stamps)

-- only events were applied
pub record GoesOn (old new : Progress) : Type 0 where
  pub events : List Event
  pub told : List Mark
  pub applies : AppliesAll old new events told
