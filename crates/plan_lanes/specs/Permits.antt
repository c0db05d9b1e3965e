-- Permits to run commands.
use Rattle.std.specs.Prelude.{◌≡◌, ℕ, Bool, true, false, Option, Some, None, IfSome, is_some}
use Rattle.plan_image.specs.declared.image.Parts.{Parts}
use Rattle.plan_verify.specs.Turn.{Request}
use Rattle.plan_status.specs.Consoles.{is_console}
use Rattle.plan_lanes.specs.declared.board.Permit.{Permit}
use Rattle.plan_lanes.specs.declared.board.PermitParts.{PermitParts}
use Rattle.plan_lanes.specs.Observations.{observed_if}
use Rattle.plan_lanes.specs.Progress.{Progress}
use Rattle.plan_lanes.specs.Questions.{command_in, is_run}

-- There is a permit only if the question of the edge is a Run. It permits the command of just this edge and question,
-- and says whether the edge is a console edge.
abbrev pub Permits : Parts → ℕ → Request → Option Permit → Type 0
Permits p e q permit =
    (is_some permit ≡ is_run q) × IfSome permit (λ x. (x.edge ≡ e) × (x.command ≡ command_in q) × (x.console ≡ is_console p e))

-- the permit is for the command of this edge and question
abbrev pub IsPermitted : ℕ → Request → Permit → Type 0
IsPermitted e q permit = (is_run q ≡ true) × (permit.edge ≡ e) × (permit.command ≡ command_in q)

-- the question of an edge to run its command, and whether the permit for it is that of a console edge
pub record PermittedRun : Type 0 where
  pub edge : ℕ
  pub number : ℕ
  pub request : Request
  pub console : Bool

abbrev pub permitted_run : ℕ → ℕ → Request → Bool → PermittedRun
permitted_run e number q console = record { edge = e; number = number; request = q; console = console }

-- ---- how a board creates a permit

abbrev pub permit_with : ℕ → Bool → PermitParts → Permit
permit_with e console parts = record { edge = e; console = console; command = parts.command; observed = parts.observed }

abbrev pub permit_of : Parts → ℕ → Option PermitParts → Option Permit
permit_of p e (Some parts) = Some (permit_with e (is_console p e) parts)
permit_of p e None = None

-- there are parts only if the question is a Run: its command, and what the edge has observed
abbrev pub AreParts : Bool → Progress → ℕ → Request → Option PermitParts → Type 0
AreParts observes b e q (Some parts) = (is_run q ≡ true) × (parts.command ≡ command_in q) × (parts.observed ≡ observed_if observes b e)
AreParts observes b e q None = is_run q ≡ false
