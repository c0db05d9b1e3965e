use Rattle.std.proofs.Common.{Bool, Option, Some, ap, sym, ◌∙◌, option_map, cond, take}
use Rattle.plan_scope.specs.Scopes.{last_of}
use Rattle.plan_scope.specs.Kept.{few_bindings}
use Rattle.plan_scope.proofs.SmallMapLemmas.{listed_taken}
use Rattle.plan_scope.proofs.scope.scoped_map.last_among.Goals.{then-eq, else-eq}
use Rattle.plan_scope.proofs.scope.scoped_map.last_among.Goals as goal

pub loop-entry-preserved : goal.loop-entry-preserved
loop-entry-preserved g c =
    let e = c.entry-item.result in
    let at = c.loop-entry in
    let one = listed_taken c.args.name.now c.args.few.now at.entry-index e c.loop-entry-test.true c.entry-item.is in
    let by = λ (t : Bool). cond {A = Option g.row.V.Denot} t (Some e.1) (last_of c.args.name.now (few_bindings (take at.entry-index c.args.few.now))) in
    elim c.if-eq.branch [
      | then-eq w ↦ ap (option_map (λ v. v.now)) w.last-is ∙ sym (one ∙ ap by (sym c.eq.ensures ∙ w.if-eq.true))
      | else-eq w ↦ ap (option_map (λ v. v.now)) w.last-is ∙ (at.invariant ∙ sym (one ∙ ap by (sym c.eq.ensures ∙ w.if-eq.false)))
    ]
