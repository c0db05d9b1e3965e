use Rattle.std.proofs.Common.{refl}
use Rattle.plan_scope.proofs.EvaluatorLemmas.{edge_more, given_within}
use Rattle.plan_scope.proofs.manifest.evaluator.add_build.Goals as goal

pub returns-clause-given : goal.returns-clause-given
returns-clause-given c = λ names h f s a b within.
    let so_far = c.args.so_far.now in
    edge_more so_far.edges c.add_edge_of_build.new.edges so_far.pools.items so_far.defaults.items c.add_edge_of_build.result _ (c.add_edge_of_build.ensures.edge names h f s a b within)

pub returns-clause-within : goal.returns-clause-within
returns-clause-within c =
    let so_far = c.args.so_far.now in
    given_within so_far.edges c.add_edge_of_build.new.edges c.add_edge_of_build.result _
    (c.add_edge_of_build.ensures.edge c.args.facts.now.pool_names _ _ (λ n. refl) (λ n. refl) (λ n. refl))
