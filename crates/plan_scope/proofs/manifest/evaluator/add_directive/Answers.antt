use Rattle.std.proofs.Common.{◌≡◌, ◌∙◌, ℕ, List, [], ◌∷◌, ◌++◌, length, refl, ap, sym, subst, arith}
use Rattle.std.proofs.lemmas.Result.{on_ok_weaker}
use Rattle.plan_text.specs.declared.piece_reader.Piece.{Piece}
use Rattle.plan_parse.specs.declared.statement.DirectiveKind.{DirectiveKind}
use Rattle.plan_parse.specs.Compact.{kind_of}
use Rattle.plan_parse.specs.Kinds.{StatementKind}
use Rattle.plan_scope.specs.declared.edge.edge_list.EdgeRows.{EdgeRows}
use Rattle.plan_scope.specs.EdgeRows.{AreWithin}
use Rattle.plan_scope.specs.Scopes.{Name, Text, Bindings, ScopedBindings, bound_by, expand, frame, in_own, last_of, lookup}
use Rattle.plan_scope.specs.Edges.{builds_of, defaults_alone, manifest_of_kind, is_among, late, map_ok, empty_manifest, paths_of, pool_alone, pool_by, pools_of, targets_by}
use Rattle.plan_scope.specs.Kept.{KeptEqScoped, EqScoped}
use Rattle.plan_scope.specs.Evaluation.{GivesMore, manifest_in}
use Rattle.plan_scope.proofs.ScopeLemmas.{same_bound, stands}
use Rattle.plan_scope.proofs.EvaluatorLemmas.{known_more, known_same, names_end, nothing_behind, on_ok_always, same_end}
use Rattle.plan_scope.proofs.manifest.evaluator.add_directive.Goals as goal

pub returns-in-Rule-clause-fits : goal.returns-in-Rule-clause-fits
returns-in-Rule-clause-fits c =
    let e = c.args.so_far.now in
    let l = c.args.statement.now in
    let rule = c.in-Rule.rule in
    on_ok_weaker c.declare.result
    (λ (known : EqScoped c.declare.new.rules (e.rules ++ in_own c.scopes-scopes.result.now rule.name (late rule.bindings))) above fits.
    let k = known_more e.bound c.declare.new.rules e.rules e.pool_names e.pool_names (length e.edges.marks.items) (length e.edges.marks.items) above l _ (c.requires ∙ ap (λ (k : DirectiveKind). kind_of k) c.in-Rule.is)
    (same_bound e.bound (bound_by above) fits.bound) fits.rules
    (λ s n. known s n ∙ ap (λ (x : List ℕ). last_of n (frame s (e.rules ++ in_own x rule.name (late rule.bindings)))) c.scopes-scopes.ensures)
    fits.names (names_end e.pool_names) fits.count (omega arith) in
    record { bound = k.0; rules = k.1; names = k.2; count = k.3; within = fits.within })
    c.declare.ensures.known

pub returns-in-Pool-clause-given : goal.returns-in-Pool-clause-given
returns-in-Pool-clause-given c = λ all above fits.
    let e = c.args.so_far.now in
    let before = manifest_in e in
    let now = manifest_in c.add_pool.new.so_far in
    let scopes = c.scopes-scopes.result.now in
    let p = c.in-Pool.declared in
    let held = c.add_pool.ensures.given (pools_of above) (lookup (bound_by above) scopes) fits.names (stands e.bound (bound_by above) fits.bound scopes) in
    let seen = subst (λ (x : List ℕ). GivesMore before now c.add_pool.result (map_ok pool_alone (pool_by (pools_of above) p.name (expand (lookup (bound_by above) x) p.depth)))) c.scopes-scopes.ensures held in
    subst (λ (k : StatementKind). GivesMore before now c.add_pool.result (manifest_of_kind all above c.args.statement.now.scopes k)) (sym (c.requires ∙ ap (λ (k : DirectiveKind). kind_of k) c.in-Pool.is)) seen

pub returns-in-Pool-clause-fits : goal.returns-in-Pool-clause-fits
returns-in-Pool-clause-fits c =
    let e = c.args.so_far.now in
    let now = c.add_pool.new.so_far in
    on_ok_weaker c.add_pool.result
    (λ (names : (n : Name) → is_among now.pool_names n ≡ is_among (e.pool_names ++ c.in-Pool.declared.name ∷ []) n) above fits.
    let k = known_more now.bound now.rules e.rules now.pool_names e.pool_names (length now.edges.marks.items) (length e.edges.marks.items) above c.args.statement.now _ (c.requires ∙ ap (λ (k : DirectiveKind). kind_of k) c.in-Pool.is)
    (subst (λ (x : ScopedBindings Text). KeptEqScoped x (bound_by above ++ [])) (sym c.add_pool.ensures.bound) (same_bound e.bound (bound_by above) fits.bound)) fits.rules
    (subst (λ (x : ScopedBindings (Bindings (List Piece))). EqScoped x (e.rules ++ [])) (sym c.add_pool.ensures.rules) (same_end e.rules))
    fits.names names fits.count (let z = ap (λ (r : EdgeRows). length r.marks.items) c.add_pool.ensures.count in omega (arith, z)) in
    record { bound = k.0; rules = k.1; names = k.2; count = k.3; within = subst AreWithin (sym c.add_pool.ensures.count) fits.within })
    c.add_pool.ensures.names

pub returns-in-Default-clause-given : goal.returns-in-Default-clause-given
returns-in-Default-clause-given c = λ all above fits.
    let e = c.args.so_far.now in
    let before = manifest_in e in
    let now = manifest_in c.add_default.new.so_far in
    let scopes = c.scopes-scopes.result.now in
    let held = c.add_default.ensures.given (lookup (bound_by above) scopes) (stands e.bound (bound_by above) fits.bound scopes) in
    let counted = subst (λ (n : ℕ). GivesMore before now c.add_default.result (map_ok defaults_alone (targets_by n (paths_of (lookup (bound_by above) scopes) c.as_slice.result.now)))) fits.count held in
    let paths = subst (λ (ps : List (List Piece)). GivesMore before now c.add_default.result (map_ok defaults_alone (targets_by (length (builds_of above)) (paths_of (lookup (bound_by above) scopes) ps)))) c.as_slice.ensures counted in
    let seen = subst (λ (x : List ℕ). GivesMore before now c.add_default.result (map_ok defaults_alone (targets_by (length (builds_of above)) (paths_of (lookup (bound_by above) x) c.in-Default.paths)))) c.scopes-scopes.ensures paths in
    subst (λ (k : StatementKind). GivesMore before now c.add_default.result (manifest_of_kind all above c.args.statement.now.scopes k)) (sym (c.requires ∙ ap (λ (k : DirectiveKind). kind_of k) c.in-Default.is)) seen

pub returns-in-Default-clause-fits : goal.returns-in-Default-clause-fits
returns-in-Default-clause-fits c =
    let e = c.args.so_far.now in
    let now = c.add_default.new.so_far in
    on_ok_always c.add_default.result
    (λ above fits.
    let k = known_more now.bound now.rules e.rules now.pool_names e.pool_names (length now.edges.marks.items) (length e.edges.marks.items) above c.args.statement.now _ (c.requires ∙ ap (λ (k : DirectiveKind). kind_of k) c.in-Default.is)
    (subst (λ (x : ScopedBindings Text). KeptEqScoped x (bound_by above ++ [])) (sym c.add_default.ensures.bound) (same_bound e.bound (bound_by above) fits.bound)) fits.rules
    (subst (λ (x : ScopedBindings (Bindings (List Piece))). EqScoped x (e.rules ++ [])) (sym c.add_default.ensures.rules) (same_end e.rules))
    fits.names
    (λ n. ap (λ (x : List Name). is_among x n) c.add_default.ensures.names ∙ names_end e.pool_names n) fits.count (let z = ap (λ (r : EdgeRows). length r.marks.items) c.add_default.ensures.count in omega (arith, z)) in
    record { bound = k.0; rules = k.1; names = k.2; count = k.3; within = subst AreWithin (sym c.add_default.ensures.count) fits.within })

pub returns-in-Include-clause-given : goal.returns-in-Include-clause-given
returns-in-Include-clause-given c = λ all above fits. (
  empty_manifest,
  ap (λ (k : StatementKind). manifest_of_kind all above c.args.statement.now.scopes k) (c.requires ∙ ap (λ (k : DirectiveKind). kind_of k) c.in-Include.is),
  nothing_behind (manifest_in c.args.so_far.now),
)

pub returns-in-Include-clause-fits : goal.returns-in-Include-clause-fits
returns-in-Include-clause-fits c = λ above fits.
    let e = c.args.so_far.now in
    let k = known_same e.bound e.rules e.pool_names (length e.edges.marks.items) above c.args.statement.now _ (c.requires ∙ ap (λ (k : DirectiveKind). kind_of k) c.in-Include.is) refl refl refl refl fits.bound fits.rules fits.names fits.count in
    record { bound = k.0; rules = k.1; names = k.2; count = k.3; within = fits.within }

pub returns-in-Subninja-clause-given : goal.returns-in-Subninja-clause-given
returns-in-Subninja-clause-given c = λ all above fits. (
  empty_manifest,
  ap (λ (k : StatementKind). manifest_of_kind all above c.args.statement.now.scopes k) (c.requires ∙ ap (λ (k : DirectiveKind). kind_of k) c.in-Subninja.is),
  nothing_behind (manifest_in c.args.so_far.now),
)

pub returns-in-Subninja-clause-fits : goal.returns-in-Subninja-clause-fits
returns-in-Subninja-clause-fits c = λ above fits.
    let e = c.args.so_far.now in
    let k = known_same e.bound e.rules e.pool_names (length e.edges.marks.items) above c.args.statement.now _ (c.requires ∙ ap (λ (k : DirectiveKind). kind_of k) c.in-Subninja.is) refl refl refl refl fits.bound fits.rules fits.names fits.count in
    record { bound = k.0; rules = k.1; names = k.2; count = k.3; within = fits.within }
