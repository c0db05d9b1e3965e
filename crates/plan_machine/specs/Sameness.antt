-- Tests that two states have ended alike.
use Rattle.std.specs.Prelude.{◌≡◌, ◌↔◌, ℕ, Bool, true, false, not, ◌&&◌, ◌==◌, List, Option, Some, None, bytes_eq}
use Rattle.std.specs.Cmp.Lexicographic.{pointwise}
use Rattle.plan_verify.specs.declared.value.Value.{Value}
use Rattle.plan_verify.specs.declared.value.Value.TheVariants.{Stamp, Flag, Text, Paths, Swept}
use Rattle.plan_verify.specs.declared.value.Cause.{Cause}
use Rattle.plan_verify.specs.declared.value.Cause.TheVariants as cause
use Rattle.plan_verify.specs.Turn.{Slots}
use Rattle.plan_machine.specs.declared.event.Outcome.{Outcome}
use Rattle.plan_machine.specs.declared.event.Outcome.TheVariants.{Clean, Ran, Failed, Skipped, Stopped, NotWanted}
use Rattle.plan_machine.specs.State.{Status, State, has_ended, outcome_at}
use Rattle.plan_machine.specs.Agreement.{EndAlike}

-- ---- outcomes

-- equal causes, with their numbers
abbrev pub same_cause : Cause → Cause → Bool
same_cause (cause.MissingInput a) (cause.MissingInput b) = a == b
same_cause cause.StatFault cause.StatFault = true
same_cause (cause.Exit a) (cause.Exit b) = a == b
same_cause cause.Signal cause.Signal = true
same_cause cause.NotStarted cause.NotStarted = true
same_cause cause.DepfileFault cause.DepfileFault = true
same_cause (cause.DepfileMalformed a n) (cause.DepfileMalformed b m) = (a == b) && (n == m)
same_cause cause.RecordFault cause.RecordFault = true
same_cause cause.TextTooLong cause.TextTooLong = true
same_cause a b = false

-- equal outcomes; skipped edges may name different edges
abbrev pub same_outcome : Outcome → Outcome → Bool
same_outcome Clean Clean = true
same_outcome Ran Ran = true
same_outcome (Failed a) (Failed b) = same_cause a b
same_outcome (Skipped v) (Skipped w) = true
same_outcome Stopped Stopped = true
same_outcome NotWanted NotWanted = true
same_outcome x y = false

-- both have an outcome, and it is the same
abbrev pub same_ended : Option Outcome → Option Outcome → Bool
same_ended (Some x) (Some y) = same_outcome x y
same_ended _ _ = false

abbrev pub same_status : Status → Status → Bool
same_status a b = same_ended (outcome_at (Some a)) (outcome_at (Some b))

-- ---- slots

abbrev pub same_flag : Bool → Bool → Bool
same_flag true b = b
same_flag false b = not b

abbrev pub same_paths : List (List ℕ) → List (List ℕ) → Bool
same_paths as' bs = pointwise bytes_eq as' bs

abbrev pub same_value : Value → Value → Bool
same_value (Stamp a) (Stamp b) = a == b
same_value (Flag a) (Flag b) = same_flag a b
same_value (Text a) (Text b) = bytes_eq a b
same_value (Paths n a) (Paths m b) = (n == m) && same_paths a b
same_value (Swept a) (Swept b) = same_paths a b
same_value _ _ = false

abbrev pub same_slot : Option Value → Option Value → Bool
same_slot (Some v) (Some w) = same_value v w
same_slot None None = true
same_slot _ _ = false

-- ---- states

abbrev pub same_statuses : List Status → List Status → Bool
same_statuses as' bs = pointwise same_status as' bs

abbrev pub same_slots : Slots → Slots → Bool
same_slots as' bs = pointwise same_slot as' bs

-- both have ended, with the same outcomes and the same slots
abbrev pub same_ends : State → State → Bool
same_ends s t = same_statuses s.edges t.edges && same_slots s.slots t.slots

-- the test is true if and only if both have ended and end alike
abbrev pub SameEndsTell : Type 0
SameEndsTell = (s t : State) → (same_ends s t ≡ true) ↔ ((has_ended s ≡ true) × (has_ended t ≡ true) × EndAlike s t)

-- ---- in the middle of lists

-- both exist, and pass a test
abbrev pub same_at : {A : Type 0} → (A → A → Bool) → Option A → Option A → Bool
same_at same (Some a) (Some b) = same a b
same_at same _ _ = false
