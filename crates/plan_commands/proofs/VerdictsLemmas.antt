-- The reasons why an image at a path is rejected.
use Rattle.std.proofs.Common.{◌≡◌, ◌⊎◌, inl, inr}
use Rattle.plan_scope.specs.Scopes.{Text}
use Rattle.plan_scope.specs.Loading.{FileContents, PathSet}
use Rattle.plan_image.specs.declared.image.Parts.{Parts}
use Rattle.plan_verify.specs.declared.fault.VerifyFault.{VerifyFault}
use Rattle.plan_verify.specs.declared.fault.VerifyFault.TheVariants.{Refused, Memory}
use Rattle.plan_verify.specs.Verdict.{IsVerifyFault}
use Rattle.plan_printing.specs.declared.fault.PlanFault.{PlanFault}
use Rattle.plan_printing.specs.Faults.{no_memory}
use Rattle.plan_commands.specs.Faults.{printed_verify_fault}
use Rattle.plan_commands.specs.Images.{IsImageAt}
use Rattle.plan_commands.specs.Verdicts.{IsRejected}

-- An image is rejected for the verifier's fault, or because memory ran out.
pub rejected : (gives : FileContents) (missing : PathSet) (path : Text) (parts : Parts) (fault : VerifyFault) (printed : PlanFault) → IsImageAt gives path parts → IsVerifyFault parts fault
    → (printed ≡ printed_verify_fault fault) ⊎ (printed ≡ no_memory) → IsRejected gives missing path printed
rejected gives missing path parts fault printed at bad (inr none) = inr (inr (inr none))
rejected gives missing path parts (Refused r e place) printed at bad (inl is) = inr (inl (parts, e, place, r, at, bad, is))
rejected gives missing path parts Memory printed at bad (inl is) = inr (inr (inl is))
