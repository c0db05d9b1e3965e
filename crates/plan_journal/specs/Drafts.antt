-- Journals that are being written.
use Rattle.std.specs.Prelude.{ℕ, ◌+◌, ◌≤◌, List}
use Rattle.plan_machine.specs.declared.event.Event.{Event}

-- the events so far, and how many more items fit into the columns of sorts, edges and stamps
pub record Draft : Type 0 where
  pub events : List Event
  pub sorts_left : ℕ
  pub edges_left : ℕ
  pub stamps_left : ℕ

-- n more events without a stamp fit in
abbrev pub HasRoom : ℕ → Draft → Type 0
HasRoom n d = (n ≤ d.sorts_left) × (n ≤ d.edges_left)

-- n stamps fit in, each with a step after it
abbrev pub HasRowRoom : ℕ → Draft → Type 0
HasRowRoom n d = HasRoom (n + n) d × (n ≤ d.stamps_left)
