use Rattle.std.proofs.Common.{◌∙◌, Err, ap, subst, sym}
use Rattle.std.proofs.lemmas.Result.{err_from_is_err_and}
use Rattle.plan_scope.specs.Scopes.{expand}
use Rattle.plan_scope.specs.EdgeRows.{edges_in}
use Rattle.plan_scope.specs.Edges.{map_ok, pool_alone, pool_by}
use Rattle.plan_scope.specs.Evaluation.{GivesMore, manifest_in}
use Rattle.plan_scope.proofs.EvaluatorLemmas.{fault_kept, pool_behind}
use Rattle.plan_scope.proofs.manifest.evaluator.add_pool.Goals as goal

pub returns-in_err-pool-clause-given : goal.returns-in_err-pool-clause-given
returns-in_err-pool-clause-given c = λ names h s a.
    let before = manifest_in c.args.so_far.now in
    let meant = pool_by names c.args.declared.now.name (expand h c.args.declared.now.depth) in
    let p = err_from_is_err_and c.from_residual.result c.from_residual.ensures.1 in
    subst (λ r. GivesMore before before r (map_ok pool_alone meant)) (sym (p.1 ∙ ap (λ e. Err e) p.2))
    (fault_kept pool_alone before before _ meant (c.in_err-pool.ensures names h s a))

pub returns-clause-given : goal.returns-clause-given
returns-clause-given c = λ names h s a.
    let so_far = c.args.so_far.now in (
      pool_alone c.in_ok-pool.pool,
      ap (map_ok pool_alone) (c.in_ok-pool.ensures names h s a),
      pool_behind (edges_in so_far.edges) so_far.pools.items c.push.new.self.items so_far.defaults.items c.in_ok-pool.pool c.in_ok-push.ensures.items,
    )
