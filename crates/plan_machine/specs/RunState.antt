-- A running image, as contracts see it.
use Rattle.plan_machine.specs.Limits.{Limits}
use Rattle.plan_machine.specs.State.{State}

-- the options that it was opened with, and its state
pub record RunState : Type 0 where
  pub limits : Limits
  pub now : State
