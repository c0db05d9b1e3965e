use Rattle.std.proofs.Common.{◌≡◌, ◌<◌, ◌∙◌, ap, subst, sym, length}
use Rattle.plan_image.specs.declared.image.Parts.{Parts}
use Rattle.plan_status.proofs.OutcomesLemmas.{not_done, one_done}
use Rattle.plan_status.specs.Outcomes.{is_done}
use Rattle.std.specs.Prelude.{ℕ}
use Rattle.plan_status.proofs.outcomes.all_done.Goals as goal

pub returns-then-not-is_done : goal.returns-then-not-is_done
returns-then-not-is_done c =
    let s = c.args.state.now.run_state.now in
    let e = c.loop-number.number in
    let same : c.parts-parts.result.now ≡ c.args.image.now = c.parts-parts.ensures.tables ∙ c.image.ensures.same in
    let below : e < length c.args.image.now.edges
    = subst (λ (q : Parts). e < length q.edges) same (subst (λ (n : ℕ). e < n) c.len-number-end.ensures c.loop-number-test.true) in
    let told = c.is_done.ensures ∙ ap is_done c.outcome.ensures in
    sym (not_done s e (length c.args.image.now.edges) c.is_done.result below told c.if-not-is_done.true)

pub loop-number-preserved : goal.loop-number-preserved
loop-number-preserved c =
    let told = c.is_done.ensures ∙ ap is_done c.outcome.ensures in
    one_done c.args.state.now.run_state.now c.loop-number.number c.is_done.result c.loop-number.invariant told c.if-not-is_done.false
