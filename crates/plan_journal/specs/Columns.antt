-- Events in columns: the sort and the edge of each, the stamps of those that bring one, and whole those of other sorts.
use Rattle.std.specs.Prelude.{◌≡◌, ℕ, ◌+◌, List, [], ◌∷◌, drop, get_or, length}
use Rattle.plan_machine.specs.declared.event.Event.{Event}
use Rattle.plan_machine.specs.declared.event.Event.TheVariants.{Start, Stop, Step, Reply as Hear}
use Rattle.plan_machine.specs.declared.event.reply.Reply.TheVariants as reply
use Rattle.plan_journal.specs.declared.sort.Sort.{Sort}
use Rattle.plan_journal.specs.declared.sort.Sort.TheVariants as sort

-- how many stamps are kept of an event of this sort
abbrev pub stamps_in : Sort → ℕ
stamps_in sort.Stamp = 1
stamps_in _ = 0

-- and how many whole events
abbrev pub wholes_in : Sort → ℕ
wholes_in sort.Whole = 1
wholes_in _ = 0

-- the total of this number over all sorts
abbrev pub total : (Sort → ℕ) → List Sort → ℕ
total kept [] = 0
total kept (s ∷ ss) = kept s + total kept ss

-- the event of this sort, by the first items of the columns
abbrev pub event_of : Sort → ℕ → ℕ → Event → Event
event_of sort.Start e stamp whole = Start e
event_of sort.Stop e stamp whole = Stop e
event_of sort.Step e stamp whole = Step e
event_of sort.Stamp e stamp whole = Hear e (reply.Stamp stamp)
event_of sort.Whole e stamp whole = whole

-- the events of four columns
abbrev pub events : List Sort → List ℕ → List ℕ → List Event → List Event
events [] edges stamps wholes = []
events (s ∷ ss) edges stamps wholes =
    event_of s (get_or edges 0 0) (get_or stamps 0 0) (get_or wholes 0 (Start 0)) ∷ events ss (drop 1 edges) (drop (stamps_in s) stamps) (drop (wholes_in s) wholes)

-- each event finds in the columns what it needs, and nothing is left
pub record Fit (sorts : List Sort) (edges stamps : List ℕ) (wholes : List Event) : Type 0 where
  pub edge_each : length edges ≡ length sorts
  pub stamp_each : length stamps ≡ total stamps_in sorts
  pub whole_each : length wholes ≡ total wholes_in sorts
