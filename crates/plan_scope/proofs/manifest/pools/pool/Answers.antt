use Rattle.std.proofs.Common.{◌≡◌, List, false, Ok, ap, sym, ◌∙◌}
use Rattle.plan_text.specs.declared.piece_reader.Piece.{Piece}
use Rattle.plan_scope.specs.Scopes.{Name, expand}
use Rattle.plan_scope.specs.Edges.{is_among}
use Rattle.plan_scope.specs.Evaluation.{depth_by}
use Rattle.plan_scope.specs.Kept.{kept}
use Rattle.plan_scope.proofs.PoolLemmas.{pool_from, pool_held, pool_is}
use Rattle.plan_scope.proofs.manifest.pools.pool.Goals as goal

pub returns-then-contains : goal.returns-then-contains
returns-then-contains c = λ names h same stands.
    let name = c.args.declared.now.name in
    let text = expand h c.args.declared.now.depth in
    let known = sym (same name) ∙ (ap (λ n. is_among c.args.above.now n) (sym c.as_slice.ensures) ∙ (sym c.contains.ensures ∙ c.if-contains.true)) in
    pool_is names name text ∙ ap (λ t. pool_from name t (depth_by text)) known

pub returns-in-Ok : goal.returns-in-Ok
returns-in-Ok c = λ names h same stands.
    let text : kept c.in_ok-text.text.items ≡ kept (expand h c.args.declared.now.depth) = c.in_ok-text.ensures.text h stands ∙ ap (λ (p : List Piece). kept (expand h p)) c.as_slice-2.ensures in
    pool_held c.args.above.now names c.as_slice.result.now c.args.declared.now.name c.in_ok-text.text.items (expand h c.args.declared.now.depth) c.contains.result false c.depth.result same c.as_slice.ensures c.contains.ensures c.if-contains.false text
    (c.depth.ensures ∙ ap depth_by c.deref.ensures.value) ∙ (ap (pool_from c.args.declared.now.name false) c.in-Ok.is ∙ ap (λ (n : Name). Ok (record { name = n; depth = c.in-Ok.depth })) (sym c.as_slice-in-Ok.ensures ∙ sym c.in_ok-name-in-Ok.ensures))

pub returns : goal.returns
returns c = λ names h same stands.
    let text : kept c.in_ok-text.text.items ≡ kept (expand h c.args.declared.now.depth) = c.in_ok-text.ensures.text h stands ∙ ap (λ (p : List Piece). kept (expand h p)) c.as_slice-2.ensures in
    pool_held c.args.above.now names c.as_slice.result.now c.args.declared.now.name c.in_ok-text.text.items (expand h c.args.declared.now.depth) c.contains.result false c.depth.result same c.as_slice.ensures c.contains.ensures c.if-contains.false text
    (c.depth.ensures ∙ ap depth_by c.deref.ensures.value) ∙ ap (pool_from c.args.declared.now.name false) c.in-Err.is
