use Rattle.std.proofs.Common.{◌∙◌, ap, map, sym}
use Rattle.std.specs.List.{list_any}
use Rattle.plan_scope.specs.Scopes.{is_empty, is_long_path}
use Rattle.plan_scope.specs.Edges.{paths_of, target_at}
use Rattle.plan_scope.proofs.PathLemmas.{targets_empty, targets_long, targets_made}
use Rattle.plan_scope.proofs.manifest.defaults.targets.Goals as goal

pub returns-then-list_has_empty : goal.returns-then-list_has_empty
returns-then-list_has_empty c = λ h s.
    targets_empty c.args.edges_above c.in_ok-paths.paths (paths_of h c.args.targets.now) (c.in_ok-paths.ensures h s)
    (sym (c.list_has_empty.ensures ∙ ap (list_any is_empty) c.as_slice.ensures) ∙ c.if-list_has_empty.true)

pub returns-then-list_has_long : goal.returns-then-list_has_long
returns-then-list_has_long c = λ h s.
    targets_long c.args.edges_above c.in_ok-paths.paths (paths_of h c.args.targets.now) (c.in_ok-paths.ensures h s)
    (sym (c.list_has_empty.ensures ∙ ap (list_any is_empty) c.as_slice.ensures) ∙ c.if-list_has_empty.false)
    (sym (c.list_has_long.ensures ∙ ap (list_any is_long_path) c.as_slice-2.ensures) ∙ c.if-list_has_long.true)

pub returns : goal.returns
returns c = λ h s.
    targets_made c.args.edges_above c.in_ok-paths.paths (paths_of h c.args.targets.now) c.in_ok-targets_at.field-0.items (c.in_ok-paths.ensures h s)
    (sym (c.list_has_empty.ensures ∙ ap (list_any is_empty) c.as_slice.ensures) ∙ c.if-list_has_empty.false)
    (sym (c.list_has_long.ensures ∙ ap (list_any is_long_path) c.as_slice-2.ensures) ∙ c.if-list_has_long.false)
    (c.in_ok-targets_at.ensures ∙ ap (map (target_at c.args.edges_above)) c.as_slice-3.ensures)
