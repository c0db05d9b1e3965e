use Rattle.std.proofs.Common.{◌∙◌, ap, sym}
use Rattle.plan_scope.specs.EdgeRows.{edges_in}
use Rattle.plan_scope.specs.Edges.{defaults_alone, map_ok, paths_of, targets_by}
use Rattle.plan_scope.proofs.EvaluatorLemmas.{targets_behind}
use Rattle.plan_scope.proofs.manifest.evaluator.add_default.Goals as goal

pub returns-clause-given : goal.returns-clause-given
returns-clause-given c = λ h a.
    let so_far = c.args.so_far.now in (
      defaults_alone c.in_ok-found.found.items,
      ap (map_ok defaults_alone) (ap (λ n. targets_by n (paths_of h c.args.paths.now)) (sym (c.len.ensures ∙ so_far.edges.marks.ok.0)) ∙ c.in_ok-found.ensures h a),
      targets_behind (edges_in so_far.edges) so_far.pools.items so_far.defaults.items c.append.new.self.items c.in_ok-found.found.items c.in_ok-append.ensures.items,
    )
