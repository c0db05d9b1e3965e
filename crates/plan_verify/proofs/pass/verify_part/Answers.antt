use Rattle.std.proofs.Common.{◌≡◌, ◌≤◌, arith, below_more}
use Rattle.plan_verify.specs.WellShaped.{IsShapedEdge}
use Rattle.plan_verify.specs.Budget.{edge_budget}
use Rattle.plan_verify.proofs.BudgetLemmas.{budget_more}
use Rattle.plan_verify.proofs.VerifiedLemmas.{part_fault, part_done}
use Rattle.plan_verify.proofs.pass.verify_part.Goals as goal

pub returns-in-Err : goal.returns-in-Err
returns-in-Err c =
    let l = c.loop-number.invariant in
    part_fault c.args.image.now c.args.from c.args.to c.loop-number.number c.in-Err.fault l.above c.loop-number-test.true l.shaped c.in-Err.ensures.err

pub loop-number-preserved : goal.loop-number-preserved
loop-number-preserved c =
    let p = c.args.image.now in
    let l = c.loop-number.invariant in
    let above = l.above in
    let lt = c.loop-number-test.true in
    let more : c.in-Ok.more ≡ edge_budget p c.loop-number.number = c.in-Ok.ensures.budget in
    let known = l.known in
    let next = budget_more p c.loop-number.number in
    let small = l.small in
    let few = c.in-Ok.ensures.small in
    record {
      above = omega (arith, above);
      below = omega (arith, lt);
      shaped = below_more (λ d. c.args.from ≤ d → IsShapedEdge p d) c.loop-number.number l.shaped (λ le. c.in-Ok.ensures.ok);
      known = omega (arith, more, known, next);
      small = omega (arith, small, few);
    }

pub returns : goal.returns
returns c =
    let l = c.loop-number.invariant in
    part_done c.args.image.now c.args.from c.args.to c.loop-number.number c.loop-number.budget l.below c.loop-number-test.false l.shaped l.known l.small
