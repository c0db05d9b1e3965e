use Rattle.std.proofs.Common.{ℕ, subst}
use Rattle.std.specs.Prelude.{IfErr, Result}
use Rattle.plan_verify.specs.declared.fault.VerifyFault.{VerifyFault}
use Rattle.plan_verify.specs.Verdict.{IsVerifyFault}
use Rattle.plan_verify.proofs.VerifiedLemmas.{fault_is_true}
use Rattle.plan_verify.proofs.verified.join_verdict.Goals as goal

pub returns-in-Err-clause-only : goal.returns-in-Err-clause-only
returns-in-Err-clause-only c =
    let p = c.args.image in
    fault_is_true p c.in-Err.fault (subst (λ (r : Result ℕ VerifyFault). IfErr r (λ f. IsVerifyFault p f)) c.in-Err.is c.requires.err)
