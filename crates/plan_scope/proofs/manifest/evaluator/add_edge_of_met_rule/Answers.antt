use Rattle.plan_scope.proofs.CompiledLemmas.{compiled_from}
use Rattle.plan_scope.proofs.EvaluatorLemmas.{on_ok_always}
use Rattle.plan_scope.proofs.manifest.evaluator.add_edge_of_met_rule.Goals as goal

pub returns-clause-found : goal.returns-clause-found
returns-clause-found c =
    on_ok_always c.push_edge-added.result
    (λ rules seen a.
    let bound = c.args.file.bound.now in
    c.replace_rule.ensures rules bound a
    (compiled_from rules bound c.args.file.scopes.now c.args.build.now.rule c.rule.result.now c.args.rule.now c.compile_rule-compiled.result c.rule.ensures seen c.compile_rule-compiled.ensures))
