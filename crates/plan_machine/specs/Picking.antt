-- The events that can happen next, without a reply or by one.
use Rattle.std.specs.Prelude.{◌≡◌, ℕ, Bool, true, false}
use Rattle.plan_image.specs.declared.image.Parts.{Parts}
use Rattle.plan_schedule.specs.declared.phase.Phase.{Phase}
use Rattle.plan_schedule.specs.declared.phase.Phase.TheVariants.{AtTake}
use Rattle.plan_schedule.specs.declared.schedule.picking.Pick.{Pick}
use Rattle.plan_schedule.specs.declared.schedule.picking.Pick.TheVariants as pick
use Rattle.plan_machine.specs.declared.event.Event.{Event}
use Rattle.plan_machine.specs.declared.event.Event.TheVariants.{Start, Skip, Stop, Step}
use Rattle.plan_machine.specs.declared.event.Mark.{Mark}
use Rattle.plan_machine.specs.State.{State}
use Rattle.plan_machine.specs.RunState.{RunState}
use Rattle.plan_machine.specs.Step.{Next, step}
use Rattle.plan_machine.specs.Depfile.{depfile}

-- the table has a next state and a mark for the event
pub record IsEnabled (p : Parts) (g : RunState) (event : Event) : Type 0 where
  pub after : State
  pub mark : Mark
  pub next : step depfile p g.limits g.now event ≡ Next after mark

abbrev pub event_of : Pick → Event
event_of (pick.Start e) = Start e
event_of (pick.Skip e w) = Skip e w
event_of (pick.Stop e) = Stop e
event_of (pick.Step e) = Step e

abbrev pub is_step : Event → Bool
is_step (Step e) = true
is_step _ = false

-- the edge is about to take a job token
abbrev pub is_at_take : Phase → Bool
is_at_take (AtTake holding) = true
is_at_take _ = false

abbrev pub is_start : Event → Bool
is_start (Start e) = true
is_start _ = false

-- the event is a step, if one is enabled
abbrev pub StepsFirst : Parts → RunState → Event → Type 0
StepsFirst p g event = (e : ℕ) → IsEnabled p g (Step e) → is_step event ≡ true
