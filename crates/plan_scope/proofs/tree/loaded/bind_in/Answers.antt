use Rattle.std.proofs.Common.{◌∙◌, ap}
use Rattle.plan_scope.specs.Scopes.{expand, lookup, is_too_long}
use Rattle.plan_scope.specs.Kept.{kept}
use Rattle.plan_scope.proofs.TextLemmas.{long_kept}
use Rattle.plan_scope.proofs.ScopeLemmas.{stands, pushed_in}
use Rattle.plan_scope.proofs.tree.loaded.bind_in.Goals as goal

pub returns-clause-bound : goal.returns-clause-bound
returns-clause-bound c = λ meant h.
    let b = c.args.binding.now in
    let scopes = c.args.scopes.now in
    pushed_in c.args.bound.now c.set.new.self meant c.args.own c.as_slice-2.result.now b.name c.new.result (expand (lookup meant scopes) b.value) h c.in_ok-set.ensures.bound c.as_slice-2.ensures
    (ap kept c.new.ensures ∙ (c.in_ok-text.ensures.text (lookup meant scopes) (stands c.args.bound.now meant h scopes) ∙ ap (λ ps. kept (expand (lookup meant scopes) ps)) c.as_slice.ensures))

pub returns-clause-long : goal.returns-clause-long
returns-clause-long c = λ meant h.
    let b = c.args.binding.now in
    let scopes = c.args.scopes.now in
    c.is_long-long.ensures
    ∙ (ap is_too_long c.deref.ensures.value
    ∙ long_kept c.in_ok-text.text.items (expand (lookup meant scopes) b.value)
    (c.in_ok-text.ensures.text (lookup meant scopes) (stands c.args.bound.now meant h scopes) ∙ ap (λ ps. kept (expand (lookup meant scopes) ps)) c.as_slice.ensures))
