use Rattle.std.proofs.Common.{ℕ, length, subst, sym, ap, ◌∙◌, arith}
use Rattle.std.specs.Prelude.{Result}
use Rattle.plan_verify.specs.declared.fault.VerifyFault.{VerifyFault}
use Rattle.plan_verify.specs.Shape.{image_refusal}
use Rattle.plan_verify.specs.Verdict.{AreGood, IsPart, IsPartFault}
use Rattle.plan_verify.specs.WellShaped.{all_fail}
use Rattle.plan_verify.proofs.VerifiedLemmas.{whole_fault}
use Rattle.plan_verify.proofs.verified.with_tables.Goals as goal

pub returns-in-Some-clause-err : goal.returns-in-Some-clause-err
returns-in-Some-clause-err c =
    let p = c.args.image.now in
    let good : AreGood p 0 (length p.edges) c.in-Ok.budget = subst (λ (r : Result ℕ VerifyFault). IsPart p 0 (length p.edges) r) c.in-Ok.is c.requires in
    all_fail (λ d lt. good.shaped d lt (omega arith)) (ap image_refusal (sym c.parts.ensures.tables) ∙ sym c.in-Some.ensures)

pub returns-in-Err-clause-err : goal.returns-in-Err-clause-err
returns-in-Err-clause-err c =
    let p = c.args.image.now in
    let fault : IsPartFault p 0 (length p.edges) c.in-Err.fault = subst (λ (r : Result ℕ VerifyFault). IsPart p 0 (length p.edges) r) c.in-Err.is c.requires in
    whole_fault p c.in-Err.fault fault
