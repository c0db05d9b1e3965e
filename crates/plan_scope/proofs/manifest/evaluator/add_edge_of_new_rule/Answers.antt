use Rattle.plan_scope.proofs.EvaluatorLemmas.{on_ok_always}
use Rattle.plan_scope.proofs.manifest.evaluator.add_edge_of_new_rule.Goals as goal

pub returns-clause-found : goal.returns-clause-found
returns-clause-found c = on_ok_always c.push_edge-added.result (λ rules seen a. c.in_ok-keep_rule.ensures rules c.args.file.bound.now a (λ rule is. tt {0}))
