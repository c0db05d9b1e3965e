-- The state of many edges at once: the status of each edge, and the value of each slot.
use Rattle.std.specs.Prelude.{ℕ, Bool, true, false, List, Option, Some, None, slice_get, slice_set}
use Rattle.std.specs.List.{list_all}
use Rattle.plan_verify.specs.Turn.{Slots, Local}
use Rattle.plan_machine.specs.declared.event.Outcome.{Outcome}
use Rattle.plan_machine.specs.declared.event.Outcome.TheVariants.{Clean, Ran, Failed, Skipped, Stopped}

-- the status of an edge: it has not begun, is running, or has its outcome
pub data Status : Type 0 where
  Unbegun : Status
  Active : Local → Status
  Over : Outcome → Status

-- by the numbers of edges and slots
pub record State : Type 0 where
  pub edges : List Status
  pub slots : Slots

-- ---- tests of the status of an edge

-- it succeeded, and edges that wait for it may start
abbrev pub has_succeeded : Status → Bool
has_succeeded (Over Clean) = true
has_succeeded (Over Ran) = true
has_succeeded _ = false

-- it has an outcome because of which edges that wait for it are skipped
abbrev pub is_unsuccessful : Status → Bool
is_unsuccessful (Over (Failed cause)) = true
is_unsuccessful (Over (Skipped w)) = true
is_unsuccessful (Over Stopped) = true
is_unsuccessful _ = false

abbrev pub has_failed : Status → Bool
has_failed (Over (Failed cause)) = true
has_failed _ = false

-- it holds a job token
abbrev pub is_holder : Status → Bool
is_holder (Active l) = l.holding
is_holder _ = false

abbrev pub is_over : Status → Bool
is_over (Over outcome) = true
is_over _ = false

abbrev pub passes : (Status → Bool) → Option Status → Bool
passes test (Some status) = test status
passes test None = false

-- the edge with this number is in the image, and its status passes the test
abbrev pub stands : (Status → Bool) → State → ℕ → Bool
stands test s e = passes test (slice_get s.edges e)

-- ---- states

-- changes the status of one edge
abbrev pub with_status : State → ℕ → Status → State
with_status s e status = record { edges = slice_set s.edges e status; slots = s.slots }

-- each edge of the image has an outcome
abbrev pub has_ended : State → Bool
has_ended s = list_all is_over s.edges

abbrev pub outcome_at : Option Status → Option Outcome
outcome_at (Some (Over outcome)) = Some outcome
outcome_at _ = None
