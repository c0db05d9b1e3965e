-- How the edges of an image ended, as text.
use Rattle.std.specs.Prelude.{ℕ, zero, suc, ◌+◌, Bool, true, false, ◌&&◌, List, [], ◌∷◌, ◌++◌, Option, Some, None, length, slice_get, codes}
use Rattle.std.specs.Fmt.{decimal}
use Rattle.plan_text.specs.Bytes.{line_feed, space}
use Rattle.plan_image.specs.declared.image.Edge.{Edge}
use Rattle.plan_image.specs.declared.image.Parts.{Parts}
use Rattle.plan_verify.specs.Tables.{first_path}
use Rattle.plan_verify.specs.declared.value.Cause.{Cause}
use Rattle.plan_machine.specs.declared.event.Outcome.{Outcome}
use Rattle.plan_machine.specs.declared.event.Outcome.TheVariants.{Clean, Ran, Failed, Skipped, Stopped, NotWanted}
use Rattle.plan_machine.specs.State.{State, outcome_at}
use Rattle.plan_status.specs.Lines.{cause_text}

abbrev pub or_empty : Option (List ℕ) → List ℕ
or_empty (Some text) = text
or_empty None = []

abbrev pub failed_text : Parts → Cause → List ℕ
failed_text p cause = codes "Failed " ++ or_empty (cause_text p cause)

abbrev pub skipped_text : ℕ → List ℕ
skipped_text w = codes "Skipped " ++ decimal w

abbrev pub plain_outcome : Option Outcome → List ℕ
plain_outcome (Some Clean) = codes "Clean"
plain_outcome (Some Ran) = codes "Ran"
plain_outcome (Some Stopped) = codes "Stopped"
plain_outcome (Some NotWanted) = codes "NotWanted"
plain_outcome _ = codes "Unended"

-- an outcome, or `Unended` if there is none
abbrev pub outcome_text : Parts → Option Outcome → List ℕ
outcome_text p (Some (Failed cause)) = failed_text p cause
outcome_text p (Some (Skipped w)) = skipped_text w
outcome_text p outcome = plain_outcome outcome

-- the first of an edge's outputs
abbrev pub edge_name : Parts → List ℕ → List ℕ
edge_name p outputs = or_empty (first_path p outputs)

-- `NUMBER NAME OUTCOME`
abbrev pub outcome_line : ℕ → List ℕ → List ℕ → List ℕ
outcome_line number name outcome = decimal number ++ space ∷ name ++ space ∷ outcome ++ line_feed ∷ []

abbrev pub edge_line : Parts → ℕ → Edge → Option Outcome → List ℕ
edge_line p e edge outcome = outcome_line e (edge_name p edge.outputs) (outcome_text p outcome)

-- of the edges from e on
abbrev pub outcomes_from : Parts → State → ℕ → List Edge → List ℕ
outcomes_from p s e [] = []
outcomes_from p s e (edge ∷ edges) = edge_line p e edge (outcome_at (slice_get s.edges e)) ++ outcomes_from p s (e + 1) edges

-- a line for each edge
abbrev pub outcomes_of : Parts → State → List ℕ
outcomes_of p s = outcomes_from p s 0 p.edges

-- an edge succeeded, or isn't wanted
abbrev pub is_done : Option Outcome → Bool
is_done (Some Clean) = true
is_done (Some Ran) = true
is_done (Some NotWanted) = true
is_done _ = false

-- each of the first edges is done
abbrev pub are_done : State → ℕ → Bool
are_done s zero = true
are_done s (suc e) = are_done s e && is_done (outcome_at (slice_get s.edges e))

-- all wanted edges of an image succeeded
abbrev pub all_done : Parts → State → Bool
all_done p s = are_done s (length p.edges)
