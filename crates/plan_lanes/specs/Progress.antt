-- The progress of a run, as a contract sees it of a board.
use Rattle.std.specs.Prelude.{ℕ, List}
use Rattle.plan_image.specs.declared.image.Parts.{Parts}
use Rattle.plan_machine.specs.Limits.{Limits}
use Rattle.plan_machine.specs.declared.event.Event.{Event}
use Rattle.plan_machine.specs.declared.event.Mark.{Mark}
use Rattle.plan_machine.specs.RunState.{RunState}
use Rattle.plan_machine.specs.State.{State}

-- the arguments of the opening of a run: an image, options, targets
pub record Opened : Type 0 where
  pub parts : Parts
  pub limits : Limits
  pub targets : List ℕ

abbrev pub opened_with : Parts → Limits → List ℕ → Opened
opened_with parts limits targets = record { parts = parts; limits = limits; targets = targets }

-- the progress of a run: the arguments of its opening, its state, its events, and their observable marks
pub record Progress : Type 0 where
  pub opened : Opened
  pub state : State
  pub journal : List Event
  pub marks : List Mark

-- the options and the state, in the form that the machine uses
abbrev pub run_state_of : Progress → RunState
run_state_of b = record { limits = b.opened.limits; now = b.state }

abbrev pub progress : Parts → List ℕ → RunState → List Event → List Mark → Progress
progress p targets g journal marks = record { opened = opened_with p g.limits targets; state = g.now; journal = journal; marks = marks }
