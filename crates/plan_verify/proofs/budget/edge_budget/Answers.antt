use Rattle.std.proofs.Common.{◌≡◌, ◌+◌, drop, length, sym, ap, ◌∙◌, arith}
use Rattle.std.specs.Prelude.{slice_get}
use Rattle.plan_image.specs.Code.{code}
use Rattle.plan_verify.specs.Budget.{cost, costs}
use Rattle.plan_verify.proofs.BudgetLemmas.{code_short, spend_one}
use Rattle.plan_verify.proofs.budget.edge_budget.Goals as goal

pub instr_at-requires-clause-short : goal.instr_at-requires-clause-short
instr_at-requires-clause-short c =
    let short = code_short c.args.image.now c.args.edge c.parts-parts.ensures.spelled in
    omega (arith, short, ap length c.edge_code-view.ensures)

pub overflow_add-budget : goal.overflow_add-budget
overflow_add-budget c =
    let short = code_short c.args.image.now c.args.edge c.parts-parts.ensures.spelled in
    let lt = c.loop-place-test.true in
    let len = c.len-place-end.ensures in
    let same = ap length c.edge_code-view.ensures in
    let small = c.loop-place.invariant.small in
    let few = c.cost-budget.ensures.small in
    omega (arith, short, lt, len, same, small, few)

pub loop-place-preserved : goal.loop-place-preserved
loop-place-preserved c =
    let here = ap (λ is. slice_get is c.loop-place.place) (sym c.edge_code-view.ensures) ∙ c.instr_at.ensures in
    let one = spend_one (code c.args.image.now c.args.edge) c.loop-place.place c.instr_at.result here in
    let value : c.cost-budget.result ≡ cost c.instr_at.result = c.cost-budget.ensures.value in
    let spent = c.loop-place.invariant.spent in
    let small = c.loop-place.invariant.small in
    let few = c.cost-budget.ensures.small in
    record {
      spent = let sum : c.loop-place.budget + c.cost-budget.result + costs (drop (c.loop-place.place + 1) (code c.args.image.now c.args.edge)) ≡ c.loop-place.budget + costs (drop c.loop-place.place (code c.args.image.now c.args.edge)) = omega (arith, one, value) in sum ∙ spent;
      small = omega (arith, small, few);
    }

pub returns-clause-small : goal.returns-clause-small
returns-clause-small c =
    let short = code_short c.args.image.now c.args.edge c.parts-parts.ensures.spelled in
    let small = c.loop-place.invariant.small in
    let end = c.loop-place.auto.place-end in
    let same = ap length c.edge_code-view.ensures in
    omega (arith, short, small, end, c.len-place-end.ensures, same)
