-- The verdict of the verifier.
use Rattle.std.specs.Prelude.{◌≡◌, ℕ, ◌+◌, ◌*◌, ◌^◌, ◌≤◌, ◌<◌, IfSome, Option, Result, Ok, Err}
use Rattle.plan_image.specs.declared.image.Parts.{Parts}
use Rattle.plan_verify.specs.declared.fault.CodeFault.{CodeFault}
use Rattle.plan_verify.specs.declared.fault.CodeFault.TheVariants as code_fault
use Rattle.plan_verify.specs.declared.fault.VerifyFault.{VerifyFault}
use Rattle.plan_verify.specs.declared.fault.VerifyFault.TheVariants as fault
use Rattle.plan_verify.specs.WellShaped.{IsFirstRefusal, IsRefused, IsShapedEdge, IsWellShaped}
use Rattle.plan_verify.specs.Budget.{budget_of_first, image_budget}

-- the invariant of a verified image: it is well shaped, and its budget is right if it was computed
pub record IsVerified (p : Parts) (budget : Option ℕ) : Type 0 where
  pub shaped : IsWellShaped p
  pub known : IfSome budget (λ b. b ≡ image_budget p)

-- converts a fault in an edge's code to one of the image
abbrev pub fault_at : ℕ → CodeFault → VerifyFault
fault_at e (code_fault.Refused r place) = fault.Refused r e place
fault_at e code_fault.Memory = fault.Memory

-- the first refusal of an edge, unless memory ran out
abbrev pub IsEdgeFault : Parts → ℕ → VerifyFault → Type 0
IsEdgeFault p e (fault.Refused r d place) = (d ≡ e) × IsFirstRefusal p e place r
IsEdgeFault p e fault.Memory = Unit {0}

-- ---- a range of edges

abbrev pub AreShapedBetween : Parts → ℕ → ℕ → Type 0
AreShapedBetween p from to = (e : ℕ) → e < to → from ≤ e → IsShapedEdge p e

-- these edges are shaped, and this is their budget
pub record AreGood (p : Parts) (from to budget : ℕ) : Type 0 where
  pub shaped : AreShapedBetween p from to
  pub known : budget + budget_of_first p from ≡ budget_of_first p to
  pub small : budget + from * 2 ^ 28 ≤ to * 2 ^ 28

-- the first refusal of one of these edges, unless memory ran out
abbrev pub IsPartFault : Parts → ℕ → ℕ → VerifyFault → Type 0
IsPartFault p from to (fault.Refused r e place) = (from ≤ e) × (e < to) × AreShapedBetween p from e × IsFirstRefusal p e place r
IsPartFault p from to fault.Memory = Unit {0}

-- the verdict on these edges
abbrev pub IsPart : Parts → ℕ → ℕ → Result ℕ VerifyFault → Type 0
IsPart p from to (Ok budget) = AreGood p from to budget
IsPart p from to (Err f) = IsPartFault p from to f

-- ---- all of them

-- the first refusal of an image, unless memory ran out
abbrev pub IsVerifyFault : Parts → VerifyFault → Type 0
IsVerifyFault p (fault.Refused r e place) = IsRefused p e place r
IsVerifyFault p fault.Memory = Unit {0}
