-- What an advance does.
use Rattle.std.specs.Prelude.{◌≡◌, true, Option, Some, None, length}
use Rattle.plan_machine.specs.declared.event.Event.{Event}
use Rattle.plan_machine.specs.declared.event.Mark.{Mark}
use Rattle.plan_machine.specs.Edges.{edge_of}
use Rattle.plan_machine.specs.RunState.{RunState}
use Rattle.plan_machine.specs.NeverStuck.{Awaits, is_own}
use Rattle.plan_machine.specs.Picking.{IsEnabled}
use Rattle.plan_image.specs.declared.image.Parts.{Parts}
use Rattle.plan_machine.specs.Requests.{Asks, AsksNothing, asked_at}
use Rattle.plan_machine.specs.State.{has_ended}
use Rattle.plan_lanes.specs.declared.batch.OwnedRequest.{OwnedRequest}
use Rattle.plan_lanes.specs.declared.board.Advance.{Advance}
use Rattle.plan_lanes.specs.declared.board.Advance.TheVariants.{Moved, Job, Wait, Ended}
use Rattle.plan_lanes.specs.Boards.{Applies}
use Rattle.plan_lanes.specs.Progress.{Progress, run_state_of}
use Rattle.plan_lanes.specs.Permits.{Permits}
use Rattle.plan_lanes.specs.Questions.{shown}

-- one start, skip, stop or step was applied and journaled
pub record Goes (old new : Progress) (event : Event) : Type 0 where
  pub own : is_own event ≡ true
  pub mark : Mark
  pub applies : Applies old new event mark

-- The effect of one advance. `Moved`: an event that doesn't ask. `Job`: an event that asks exactly this question, with
-- the permit for its command if it is a Run. `Wait`: nothing, since no start, skip, stop or step is enabled, and an edge
-- awaits a reply. `Ended`: nothing, since the run has ended.
abbrev pub Advances : Progress → Progress → Advance → Type 0
Advances old new Moved = (event : Event) × Goes old new event × AsksNothing old.opened.parts (run_state_of old) event
Advances old new (Job e question permit) =
    (event : Event) × Goes old new event × (edge_of event ≡ e)
    × (asked_at new.opened.parts new.state e ≡ Some (shown question.request))
    × (question.number ≡ length old.journal)
    × Permits old.opened.parts e (shown question.request) permit
Advances old new Wait = (new ≡ old) × ((event : Event) → is_own event ≡ true → IsEnabled old.opened.parts (run_state_of old) event → ⊥) × Awaits old.state
Advances old new Ended = (new ≡ old) × (has_ended old.state ≡ true)

-- the request that an event would make, as a lane carries it; None if the event isn't enabled or doesn't ask
abbrev pub WouldAsk : Parts → RunState → Event → Option OwnedRequest → Type 0
WouldAsk p g event (Some asked) = Asks p g event (shown asked)
WouldAsk p g event None = AsksNothing p g event
