-- Journals: the events of a run, in their order.
use Rattle.std.specs.Prelude.{◌≡◌, ◌≢◌, ◌<◌, ℕ, List, Some, slice_get, take}
use Rattle.plan_image.specs.declared.image.Parts.{Parts}
use Rattle.plan_verify.specs.Turn.{Request}
use Rattle.plan_machine.specs.Limits.{Limits}
use Rattle.plan_machine.specs.declared.event.Event.{Event}
use Rattle.plan_machine.specs.declared.event.Event.TheVariants.{Reply as Hear}
use Rattle.plan_machine.specs.declared.event.Mark.{Mark}
use Rattle.plan_machine.specs.declared.event.reply.Reply.{Reply}
use Rattle.plan_machine.specs.Depfile.{depfile}
use Rattle.plan_machine.specs.Edges.{edge_of}
use Rattle.plan_machine.specs.Requests.{asked_at}
use Rattle.plan_machine.specs.Runs.{Reached}
use Rattle.plan_machine.specs.State.{State}

-- the replies that a world may give, by the number of the question and the question
abbrev pub Rule : Type 1
Rule = ℕ → Request → Reply → Type 0

-- the event at this position is the last one of an edge
pub record IsLastOf (e n : ℕ) (journal : List Event) : Type 0 where
  pub event : Event
  pub there : slice_get journal n ≡ Some event
  pub is : edge_of event ≡ e
  pub last : (k : ℕ) (other : Event) → n < k → slice_get journal k ≡ Some other → edge_of other ≢ e

-- The rule allows each reply for the question that its edge had asked before, under the number of that question. The
-- number is the position of the edge's last event before the reply.
abbrev pub IsAllowed : Rule → Parts → Limits → List ℕ → List Event → Type 0
IsAllowed rule p limits targets journal =
    (i e : ℕ) (r : Reply) (s : State) (marks : List Mark) (q : Request) (n : ℕ)
    → slice_get journal i ≡ Some (Hear e r)
    → Reached depfile p limits targets (take i journal) marks s
    → asked_at p s e ≡ Some q
    → IsLastOf e n (take i journal)
    → rule n q r
