use Rattle.std.proofs.Common.{◌≡◌, ◌∙◌, ℕ, ◌+◌, List, [], ◌++◌, length, ap, sym, subst}
use Rattle.plan_text.specs.declared.piece_reader.Piece.{Piece}
use Rattle.plan_parse.specs.Kinds.{StatementKind}
use Rattle.plan_scope.specs.EdgeRows.{AreWithin}
use Rattle.plan_scope.specs.Scopes.{Name, Text, Bindings, ScopedBindings, bound_by, lookup}
use Rattle.plan_scope.specs.Edges.{edge_of_build, edge_alone, manifest_of_kind, is_among, map_ok, pools_of, rules_of}
use Rattle.plan_scope.specs.Kept.{KeptEqScoped, EqScoped}
use Rattle.plan_scope.specs.Evaluation.{GivesMore, manifest_in}
use Rattle.plan_scope.proofs.ScopeLemmas.{same_bound, stands}
use Rattle.plan_scope.proofs.EvaluatorLemmas.{built_same, known_more, names_end, on_ok_both, same_end}
use Rattle.plan_scope.proofs.manifest.evaluator.add_edge.Goals as goal

pub returns-clause-given : goal.returns-clause-given
returns-clause-given c = λ all above fits facts.
    let e = c.args.so_far.now in
    let before = manifest_in e in
    let now = manifest_in c.add_build.new.so_far in
    let scopes = c.scopes-scopes.result.now in
    let b = c.args.build.now in
    let held = c.add_build.ensures.given (pools_of all) (lookup (bound_by above) scopes) (lookup (bound_by all) scopes) facts.names (stands e.bound (bound_by above) fits.bound scopes) (stands c.args.facts.now.bound.now (bound_by all) facts.bound scopes) fits.within in
    let ruled = subst (λ r. GivesMore before now c.add_build.result (map_ok edge_alone r)) (built_same (pools_of all) e.rules (rules_of above) scopes (lookup (bound_by above) scopes) (lookup (bound_by all) scopes) b fits.rules) held in
    let seen = subst (λ (x : List ℕ). GivesMore before now c.add_build.result (map_ok edge_alone (edge_of_build (pools_of all) (rules_of above) x (lookup (bound_by above) x) (lookup (bound_by all) x) b))) c.scopes-scopes.ensures ruled in
    subst (λ (k : StatementKind). GivesMore before now c.add_build.result (manifest_of_kind all above c.args.statement.now.scopes k)) (sym c.requires.kind) seen

pub returns-clause-fits : goal.returns-clause-fits
returns-clause-fits c =
    let e = c.args.so_far.now in
    let now = c.add_build.new.so_far in
    on_ok_both c.add_build.result
    (λ (count : length now.edges.marks.items ≡ length e.edges.marks.items + 1) (within : AreWithin e.edges → AreWithin now.edges) above fits.
    let k = known_more now.bound now.rules e.rules now.pool_names e.pool_names (length now.edges.marks.items) (length e.edges.marks.items) above c.args.statement.now _ c.requires.kind
    (subst (λ (x : ScopedBindings Text). KeptEqScoped x (bound_by above ++ [])) (sym c.add_build.ensures.bound) (same_bound e.bound (bound_by above) fits.bound)) fits.rules
    (subst (λ (x : ScopedBindings (Bindings (List Piece))). EqScoped x (e.rules ++ [])) (sym c.add_build.ensures.rules) (same_end e.rules))
    fits.names
    (λ n. ap (λ (x : List Name). is_among x n) c.add_build.ensures.names ∙ names_end e.pool_names n) fits.count count in
    record { bound = k.0; rules = k.1; names = k.2; count = k.3; within = within fits.within })
    c.add_build.ensures.count c.add_build.ensures.within
