use Rattle.std.proofs.Common.{◌≡◌, ◌+◌, drop, length, refl, sym, ap, subst, ◌∙◌, arith}
use Rattle.std.specs.Prelude.{slice_get}
use Rattle.std.proofs.lemmas.List.{nil_from_length, length-replicate}
use Rattle.plan_image.specs.declared.image.Parts.{Parts}
use Rattle.plan_image.specs.Code.{code}
use Rattle.plan_verify.specs.declared.arrivals.Arrival.TheVariants as arrival
use Rattle.plan_verify.specs.Budget.{cost, costs}
use Rattle.plan_verify.specs.WellShaped.{no_code}
use Rattle.plan_verify.specs.Pass.{Reached}
use Rattle.plan_verify.proofs.PassLemmas.{starts}
use Rattle.plan_verify.proofs.BudgetLemmas.{spend_one, code_short}
use Rattle.plan_verify.proofs.pass.pass_code.Goals as goal

pub returns-then-len-eq0-clause-err : goal.returns-then-len-eq0-clause-err
returns-then-len-eq0-clause-err c = no_code c.requires.tables (nil_from_length (code c.args.image.now c.args.edge) (sym (c.len-len.ensures ∙ ap length c.edge_code-view.ensures) ∙ c.if-len-eq0.true))

pub loop-place-init : goal.loop-place-init
loop-place-init c = record {
  long = ap length c.in_ok-arrivals.ensures ∙ length-replicate c.len-len.result arrival.Nothing ∙ (c.len-len.ensures ∙ ap length c.edge_code-view.ensures);
  reached = starts c.args.image.now c.args.edge c.len-len.result c.in_ok-arrivals.arrivals.items c.flow_at_start-flow.result c.in_ok-arrivals.ensures c.flow_at_start-flow.ensures.shape c.flow_at_start-flow.ensures.falls;
  spent = refl;
  small = omega arith;
}

pub instr_at-instr-requires-clause-short : goal.instr_at-instr-requires-clause-short
instr_at-instr-requires-clause-short c =
    let short = code_short c.args.image.now c.args.edge c.parts-parts.ensures.spelled in
    omega (arith, short, ap length c.edge_code-view.ensures)

pub pass_place-requires-clause-short : goal.pass_place-requires-clause-short
pass_place-requires-clause-short c =
    rw c.parts-parts.ensures.tables (let short = code_short c.args.image.now c.args.edge c.parts-parts.ensures.spelled in omega (arith, short))

pub loop-place-preserved : goal.loop-place-preserved
loop-place-preserved c =
    let here = ap (λ is. slice_get is c.loop-place.place) (sym c.edge_code-view.ensures) ∙ c.instr_at-instr.ensures in
    let one = spend_one (code c.args.image.now c.args.edge) c.loop-place.place c.instr_at-instr.result here in
    let value : c.cost-budget.result ≡ cost c.instr_at-instr.result = c.cost-budget.ensures.value in
    let spent = c.loop-place.invariant.spent in
    let small = c.loop-place.invariant.small in
    let few = c.cost-budget.ensures.small in
    record {
      long = c.in-Ok.ensures.long ∙ c.loop-place.invariant.long;
      reached = subst (λ (p : Parts). Reached p c.args.edge (c.loop-place.place + 1) c.pass_place.new.arrivals.items c.pass_place.new.flow) c.parts-parts.ensures.tables c.in-Ok.ensures.ok;
      spent = let sum : c.loop-place.budget + c.cost-budget.result + costs (drop (c.loop-place.place + 1) (code c.args.image.now c.args.edge)) ≡ c.loop-place.budget + costs (drop c.loop-place.place (code c.args.image.now c.args.edge)) = omega (arith, one, value) in sum ∙ spent;
      small = omega (arith, small, few);
    }

pub returns-clause-small : goal.returns-clause-small
returns-clause-small c =
    let short = code_short c.args.image.now c.args.edge c.parts-parts.ensures.spelled in
    let small = c.loop-place.invariant.small in
    let end = c.loop-place.auto.place-end in
    omega (arith, short, small, end, c.len-len.ensures, ap length c.edge_code-view.ensures)
