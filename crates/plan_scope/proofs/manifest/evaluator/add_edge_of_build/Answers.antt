use Rattle.std.proofs.Common.{◌≡◌, ◌∙◌, [], Bool, List, ℕ, Some, true, false, Result, ap, cond, sym, subst}
use Rattle.std.specs.Prelude.{bytes_eq, codes}
use Rattle.plan_scope.specs.declared.fault.Cause.{Cause}
use Rattle.plan_scope.specs.Edge.{Edge}
use Rattle.plan_scope.specs.declared.manifest.rules.FoundRule.{FoundRule}
use Rattle.plan_scope.specs.Scopes.{nearest}
use Rattle.plan_scope.specs.Edges.{edge_of_rule, edge_or_refusal, phony_variables, environment_of}
use Rattle.plan_scope.specs.Found.{AreFound}
use Rattle.plan_scope.specs.EdgeAnswers.{GivesEdge}
use Rattle.plan_scope.proofs.manifest.evaluator.add_edge_of_build.Goals as goal

pub returns-then-is_phony-clause-edge : goal.returns-then-is_phony-clause-edge
returns-then-is_phony-clause-edge c = λ names h f s a b w.
    let phony : Result Edge Cause = edge_or_refusal names h c.args.build.now (phony_variables (environment_of h f c.args.build.now [])) true in
    let other = edge_of_rule names h f c.args.build.now (nearest c.args.rules.now c.args.here.scopes.now c.args.build.now.rule) in
    let is : bytes_eq c.args.build.now.rule (codes "phony") ≡ true = sym (ap (λ n. bytes_eq n (codes "phony")) c.rule.ensures) ∙ (sym c.is_phony.ensures ∙ c.if-is_phony.true) in
    subst (GivesEdge c.args.edges.now c.push_phony_edge.new.edges c.push_phony_edge.result) (sym (ap (λ (t : Bool). cond t phony other) is)) (c.push_phony_edge.ensures.edge names h f s a b w)

-- The rule that was looked up is the one under the name by which it is kept.
pub push_edge-requires : goal.push_edge-requires
push_edge-requires c =
    let rules = c.args.rules.now in
    let above = c.args.here.scopes.now in
    let seen : nearest rules c.args.file.scopes.now c.rule-3.result.now ≡ Some c.in-Some.rule.now =
    ap (λ (x : List ℕ). nearest rules x c.rule-3.result.now) c.requires.scopes ∙ (ap (nearest rules above) (c.rule-3.ensures ∙ sym c.rule-2.ensures) ∙ sym c.in-Some.ensures) in
    let found = subst (λ (fs : List FoundRule). AreFound rules c.args.file.bound.now fs) (sym c.deref.ensures.value) c.requires.found in
    c.in-Some-find_rule.ensures rules c.args.file.bound.now found c.in-Some.rule.now seen

pub returns-in-Some-find_rule-clause-edge : goal.returns-in-Some-find_rule-clause-edge
returns-in-Some-find_rule-clause-edge c = λ names h f s a b w.
    let phony : Result Edge Cause = edge_or_refusal names h c.args.build.now (phony_variables (environment_of h f c.args.build.now [])) true in
    let other = edge_of_rule names h f c.args.build.now (nearest c.args.rules.now c.args.here.scopes.now c.args.build.now.rule) in
    let is : bytes_eq c.args.build.now.rule (codes "phony") ≡ false = sym (ap (λ n. bytes_eq n (codes "phony")) c.rule.ensures) ∙ (sym c.is_phony.ensures ∙ c.if-is_phony.false) in
    let rule : Some c.in-Some.rule.now ≡ nearest c.args.rules.now c.args.here.scopes.now c.args.build.now.rule = c.in-Some.ensures ∙ ap (nearest c.args.rules.now c.args.here.scopes.now) c.rule-2.ensures in
    subst (GivesEdge c.args.edges.now c.push_edge.new.edges c.push_edge.result) (ap (edge_of_rule names h f c.args.build.now) rule ∙ sym (ap (λ (t : Bool). cond t phony other) is)) (c.push_edge.ensures.edge names h f s a b w)

pub returns-in-None-clause-edge : goal.returns-in-None-clause-edge
returns-in-None-clause-edge c = λ names h f s a b w.
    let phony : Result Edge Cause = edge_or_refusal names h c.args.build.now (phony_variables (environment_of h f c.args.build.now [])) true in
    let other = edge_of_rule names h f c.args.build.now (nearest c.args.rules.now c.args.here.scopes.now c.args.build.now.rule) in
    let is : bytes_eq c.args.build.now.rule (codes "phony") ≡ false = sym (ap (λ n. bytes_eq n (codes "phony")) c.rule.ensures) ∙ (sym c.is_phony.ensures ∙ c.if-is_phony.false) in
    let rule : Some c.in-Some.rule.now ≡ nearest c.args.rules.now c.args.here.scopes.now c.args.build.now.rule = c.in-Some.ensures ∙ ap (nearest c.args.rules.now c.args.here.scopes.now) c.rule-2.ensures in
    subst (GivesEdge c.args.edges.now c.add_edge_of_new_rule.new.edges c.add_edge_of_new_rule.result) (ap (edge_of_rule names h f c.args.build.now) rule ∙ sym (ap (λ (t : Bool). cond t phony other) is)) (c.add_edge_of_new_rule.ensures.edge names h f s a b w)

pub returns-in-Some-Met-clause-edge : goal.returns-in-Some-Met-clause-edge
returns-in-Some-Met-clause-edge c = λ names h f s a b w.
    let phony : Result Edge Cause = edge_or_refusal names h c.args.build.now (phony_variables (environment_of h f c.args.build.now [])) true in
    let other = edge_of_rule names h f c.args.build.now (nearest c.args.rules.now c.args.here.scopes.now c.args.build.now.rule) in
    let is : bytes_eq c.args.build.now.rule (codes "phony") ≡ false = sym (ap (λ n. bytes_eq n (codes "phony")) c.rule.ensures) ∙ (sym c.is_phony.ensures ∙ c.if-is_phony.false) in
    let rule : Some c.in-Some.rule.now ≡ nearest c.args.rules.now c.args.here.scopes.now c.args.build.now.rule = c.in-Some.ensures ∙ ap (nearest c.args.rules.now c.args.here.scopes.now) c.rule-2.ensures in
    subst (GivesEdge c.args.edges.now c.add_edge_of_met_rule.new.edges c.add_edge_of_met_rule.result) (ap (edge_of_rule names h f c.args.build.now) rule ∙ sym (ap (λ (t : Bool). cond t phony other) is)) (c.add_edge_of_met_rule.ensures.edge names h f s a b w)
