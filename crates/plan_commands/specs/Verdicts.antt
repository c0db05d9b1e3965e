-- The behavior of `verify IMG`.
use Rattle.std.specs.Prelude.{◌≡◌, ◌⊎◌, ℕ, true, false, List, [], ◌∷◌, ◌++◌, length, codes}
use Rattle.std.specs.Fmt.{decimal}
use Rattle.plan_text.specs.Bytes.{line_feed, space}
use Rattle.plan_text.specs.Sinks.{Writes}
use Rattle.plan_scope.specs.Scopes.{Text}
use Rattle.plan_scope.specs.Loading.{FileContents, PathSet}
use Rattle.plan_image.specs.declared.image.Parts.{Parts}
use Rattle.plan_verify.specs.declared.fault.Refusal.{Refusal}
use Rattle.plan_verify.specs.declared.fault.VerifyFault.TheVariants as verdict
use Rattle.plan_verify.specs.WellShaped.{IsWellShaped, IsRefused}
use Rattle.plan_verify.specs.Budget.{image_budget}
use Rattle.plan_printing.specs.declared.fault.PlanFault.{PlanFault}
use Rattle.plan_printing.specs.Faults.{no_memory, output_fault}
use Rattle.plan_commands.specs.Faults.{printed_verify_fault}
use Rattle.plan_commands.specs.Images.{SinkState, IsImageAt, LacksImage}

-- The line `ok EDGES BUDGET`, with the number of edges and the budget.
abbrev pub verdict_line : Parts → List ℕ
verdict_line parts = codes "ok " ++ decimal (length parts.edges) ++ space ∷ decimal (image_budget parts) ++ line_feed ∷ []

-- An image that the source may give for the path is well shaped. No write failed, and the sink took the verdict.
abbrev pub Accepts : FileContents → Text → (old new : SinkState) → Type 0
Accepts gives path old new = (parts : Parts) × IsImageAt gives path parts × IsWellShaped parts × Writes true old new (verdict_line parts)

-- An image that the source may give for the path fails a check. The first failed check is printed.
abbrev pub Rejects : FileContents → Text → PlanFault → Type 0
Rejects gives path fault =
    (parts : Parts) × (edge : ℕ) × (place : ℕ) × (refusal : Refusal) × IsImageAt gives path parts × IsRefused parts edge place refusal
    × (fault ≡ printed_verify_fault (verdict.Refused refusal edge place))

-- The verifier or the program ran out of memory.
abbrev pub LacksMemory : PlanFault → Type 0
LacksMemory fault = (fault ≡ printed_verify_fault verdict.Memory) ⊎ (fault ≡ no_memory)

-- The reasons why there is no verdict to print.
abbrev pub IsRejected : FileContents → PathSet → Text → PlanFault → Type 0
IsRejected gives missing path fault = LacksImage gives missing path fault ⊎ (Rejects gives path fault ⊎ LacksMemory fault)

-- An image that the source may give for the path is well shaped, but a write of the verdict failed.
abbrev pub FailsToAccept : FileContents → Text → (old new : SinkState) → PlanFault → Type 0
FailsToAccept gives path old new fault = (parts : Parts) × IsImageAt gives path parts × IsWellShaped parts × Writes false old new (verdict_line parts) × (fault ≡ output_fault)
