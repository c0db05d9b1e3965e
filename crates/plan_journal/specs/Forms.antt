-- Forms of a journal that is being built: its events are kept, or only counted.
use Rattle.std.specs.Prelude.{◌≡◌, ℕ, ◌-◌, Bool, true, false, List, length}
use Rattle.plan_machine.specs.declared.event.Event.{Event}
use Rattle.plan_journal.specs.declared.journal_builder.Form.{Form}
use Rattle.plan_journal.specs.declared.journal_builder.Form.TheVariants.{Kept, Counted}
use Rattle.plan_journal.specs.Drafts.{Draft}

-- the greatest count
abbrev pub most : ℕ
most = 18446744073709551615

-- How many events fit in: as many as the columns have room for, or as many as can be counted. A stamp that is only
-- counted takes no room of its own.
abbrev pub draft : Form → List Event → Draft
draft (Kept columns) events = record { events = events; sorts_left = columns.sorts_left; edges_left = columns.edges_left; stamps_left = columns.stamps_left }
draft (Counted count) events = record { events = events; sorts_left = most - count; edges_left = most - count; stamps_left = most }

-- The columns have these events if journals are kept; if not, the count is theirs.
abbrev pub IsForm : Bool → Form → List Event → Type 0
IsForm keeps (Kept columns) events = (keeps ≡ true) × (columns.events ≡ events)
IsForm keeps (Counted count) events = (keeps ≡ false) × (count ≡ length events)
