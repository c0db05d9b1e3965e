-- Events that are read from a journal.
use Rattle.plan_machine.specs.declared.event.Event.{Event}
use Rattle.plan_journal.specs.declared.read_event.Source.{Source}
use Rattle.plan_journal.specs.declared.read_event.Source.TheVariants.{Kept, Made}

-- the event: a whole one that the journal keeps, or one that was built from its columns
abbrev pub event_in : Source → Event
event_in (Kept event) = event.now
event_in (Made event) = event
