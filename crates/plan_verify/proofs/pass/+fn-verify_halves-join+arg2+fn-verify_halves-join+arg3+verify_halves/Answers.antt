use Rattle.std.proofs.Common.{◌≡◌, ℕ, ◌+◌, ◌-◌, ◌/◌, length, ap, arith, subst}
use Rattle.std.specs.Prelude.{Result}
use Rattle.plan_image.specs.declared.image.Parts.{Parts}
use Rattle.plan_verify.specs.declared.fault.VerifyFault.{VerifyFault}
use Rattle.plan_verify.specs.Verdict.{AreGood, IsPart, IsPartFault}
use Rattle.plan_verify.proofs.VerifiedLemmas.{both_good, high_fault}
use Rattle.plan_verify.proofs.pass.+fn-verify_halves-join+arg2+fn-verify_halves-join+arg3+verify_halves.Goals as goal

pub overflow_add-result : goal.overflow_add-result
overflow_add-result g t c =
    let p = c.args.image.now in
    let from = c.args.from in
    let to = c.args.to in
    let middle = from + (to - from) / 2 in
    let low : AreGood p from middle c.in-Ok-Ok.low = subst (λ (r : Result ℕ VerifyFault). IsPart p from middle r) c.in-Ok-Ok.is-0 c.join-low.ensures.first in
    let high : AreGood p middle to c.in-Ok-Ok.high = subst (λ (r : Result ℕ VerifyFault). IsPart p middle to r) c.in-Ok-Ok.is-1 c.join-low.ensures.second in
    let small = (both_good p from middle to c.in-Ok-Ok.low c.in-Ok-Ok.high low high).small in
    let inside = c.requires.inside in
    let few = c.parts-parts.ensures.spelled.limits.counts.edges in
    let same : length c.parts-parts.result.now.edges ≡ length p.edges = ap (λ (q : Parts). length q.edges) c.parts-parts.ensures.tables in
    omega (arith, small, inside, few, same)

pub returns-in-Ok-Ok : goal.returns-in-Ok-Ok
returns-in-Ok-Ok g t c =
    let p = c.args.image.now in
    let from = c.args.from in
    let to = c.args.to in
    let middle = from + (to - from) / 2 in
    let low : AreGood p from middle c.in-Ok-Ok.low = subst (λ (r : Result ℕ VerifyFault). IsPart p from middle r) c.in-Ok-Ok.is-0 c.join-low.ensures.first in
    let high : AreGood p middle to c.in-Ok-Ok.high = subst (λ (r : Result ℕ VerifyFault). IsPart p middle to r) c.in-Ok-Ok.is-1 c.join-low.ensures.second in
    both_good p from middle to c.in-Ok-Ok.low c.in-Ok-Ok.high low high

pub returns-in-Ok-Err : goal.returns-in-Ok-Err
returns-in-Ok-Err g t c =
    let p = c.args.image.now in
    let from = c.args.from in
    let to = c.args.to in
    let order = c.requires.order in
    let middle = from + (to - from) / 2 in
    let low : AreGood p from middle c.in-Ok-Err._low = subst (λ (r : Result ℕ VerifyFault). IsPart p from middle r) c.in-Ok-Err.is-0 c.join-low.ensures.first in
    let high : IsPartFault p middle to c.in-Ok-Err.fault = subst (λ (r : Result ℕ VerifyFault). IsPart p middle to r) c.in-Ok-Err.is-1 c.join-low.ensures.second in
    high_fault p from middle to c.in-Ok-Err._low c.in-Ok-Err.fault (omega arith) low high
