use Rattle.std.proofs.Common.{◌∷◌, ◌++◌, ◌∙◌, [], List, ap}
use Rattle.std.specs.Prelude.{codes}
use Rattle.plan_scope.specs.Scopes.{Name}
use Rattle.plan_scope.specs.EdgeRows.{edges_in}
use Rattle.plan_scope.specs.Edges.{is_among}
use Rattle.plan_scope.proofs.EvaluatorLemmas.{fits_none, manifest_alone}
use Rattle.plan_scope.proofs.manifest.evaluator.initial_evaluation.Goals as goal

pub returns : goal.returns
returns c =
    let rows = c.in_ok-edges.ensures in
    let fits = fits_none c.new-2.result c.new-3.result c.insert.new.self c.in_ok-edges.edges.marks.items c.new-2.ensures c.new-3.ensures
    (λ n. c.in_ok-insert.ensures.names n ∙ ap (λ (l : List Name). is_among (l ++ codes "console" ∷ []) n) c.new-pool_names.ensures) rows.marks in (
      record { bound = fits.0; rules = fits.1; names = fits.2; count = fits.3; within = rows.within },
      manifest_alone (edges_in c.in_ok-edges.edges) c.new-pools.result.items c.push.new.self.items c.new-4.result.items c.in_ok-copy_of.field-0 rows.none c.new-pools.ensures.items c.in_ok-push.ensures.items c.in_ok-copy_of.ensures c.new-4.ensures.items,
    )
