use Rattle.std.proofs.Common.{◌≡◌, ◌∷◌, [], ◌++◌, List, sym, ap, ◌∙◌, map, take}
use Rattle.std.proofs.lemmas.List.{map_more}
use Rattle.plan_scope.specs.Scopes.{Text}
use Rattle.plan_scope.specs.declared.manifest.DefaultTarget.{DefaultTarget}
use Rattle.plan_scope.specs.Edges.{path_of, target_at}
use Rattle.plan_scope.proofs.manifest.defaults.targets_at.Goals as goal

pub loop-path-preserved : goal.loop-path-preserved
loop-path-preserved c =
    let at = c.loop-path in
    let n = c.args.edges_above in
    let paths = c.args.paths.now in
    let path : c.in_ok-path.path ≡ path_of c.path-item.result = c.in_ok-path.ensures ∙ ap path_of c.as_slice.ensures in
    c.in_ok-push.ensures.items
    ∙ (ap (λ (l : List DefaultTarget). l ++ (record { path = c.in_ok-path.path; edges_above = n }) ∷ []) at.invariant
    ∙ (ap (λ (p : Text). map (target_at n) (take at.path-index paths) ++ (record { path = p; edges_above = n }) ∷ []) path
    ∙ (ap (λ (p : Text). map (target_at n) (take at.path-index paths) ++ target_at n p ∷ []) c.path-item.is
    ∙ sym (map_more (target_at n) paths at.path-index c.path-item.result c.loop-path-test.true))))
