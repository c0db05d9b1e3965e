use Rattle.std.proofs.Common.{◌∙◌, sym}
use Rattle.plan_scope.proofs.CompiledLemmas.{found_as, found_at}
use Rattle.plan_scope.proofs.manifest.rules.find_rule.Goals as goal

pub returns-then-eq-2 : goal.returns-then-eq-2
returns-then-eq-2 c = λ rules bound a.
    let rule = c.rule-item.result in
    found_as rules bound rule c.args.scopes.now c.args.name.now (sym c.eq.ensures ∙ c.if-eq.true) (sym c.eq-then-eq.ensures ∙ c.if-eq-2.true)
    (found_at rules bound c.args.found.now c.loop-rule.rule-index rule c.loop-rule-test.true c.rule-item.is a)
