use Rattle.std.proofs.Common.{subst, sym}
use Rattle.plan_scope.specs.Found.{AreFound}
use Rattle.plan_scope.proofs.CompiledLemmas.{found_more}
use Rattle.plan_scope.proofs.manifest.rules.keep_rule.Goals.{then-len-ge-MOST_RULES, else-len-ge-MOST_RULES}
use Rattle.plan_scope.proofs.manifest.rules.keep_rule.Goals as goal

pub returns : goal.returns
returns c = λ rules bound a h.
    let others : AreFound rules bound c.if-len-ge-MOST_RULES.found.items =
    elim c.if-len-ge-MOST_RULES.branch [
      | then-len-ge-MOST_RULES w ↦ subst (λ v. AreFound rules bound v.items) (sym w.found-is) (subst (AreFound rules bound) (sym w.clear.ensures.items) (tt {0}))
      | else-len-ge-MOST_RULES w ↦ subst (λ v. AreFound rules bound v.items) (sym w.found-is) a
    ] in
    subst (AreFound rules bound) (sym c.in_ok-push.ensures.items) (found_more rules bound c.if-len-ge-MOST_RULES.found.items c.args.rule others h)
