use Rattle.std.proofs.Common.{◌≡◌, None, false, ap, subst, sym, ◌∙◌, slice_index_or}
use Rattle.plan_scope.specs.Scopes.{ScopedBindings, nearest}
use Rattle.plan_scope.specs.Keys.{scoped_by}
use Rattle.plan_scope.proofs.ScopedMapLemmas.{nearest_none}
use Rattle.plan_scope.proofs.scope.scoped_map.ScopedMap.may_have.Goals as goal

pub returns : goal.returns
returns g c = λ e scopes.
    let name = c.args.name.now in
    subst (λ (f : ScopedBindings g.row.V.Denot). nearest f scopes name ≡ None) c.self.view_is
    (nearest_none (scoped_by c.self.inside.values.entries) name (λ s. c.self.invariant.1 s name (ap (λ i. slice_index_or c.self.inside.marked i false) (sym c.mark.ensures.mark) ∙ e)) scopes)
