use Rattle.std.proofs.Common.{◌≡◌, Option, Some, None, subst, sym, ◌∙◌}
use Rattle.plan_scope.specs.Scopes.{ScopedBindings, frame, last_of}
use Rattle.plan_scope.proofs.ScopedMapLemmas.{last_in_scoped}
use Rattle.plan_scope.proofs.scope.scoped_map.ScopedMap.own.Goals as goal

pub returns-in-Some : goal.returns-in-Some
returns-in-Some g c =
    subst (λ (f : ScopedBindings g.row.V.Denot). Some c.in-Some.value.now ≡ last_of c.args.name.now (frame c.args.scope f)) c.self.view_is
    (c.in-Some.ensures.value ∙ sym (last_in_scoped c.args.scope c.args.name.now c.self.inside.values.entries))

pub returns-in-None : goal.returns-in-None
returns-in-None g c =
    subst (λ (f : ScopedBindings g.row.V.Denot). ◌≡◌ {A = Option g.row.V.Denot} None (last_of c.args.name.now (frame c.args.scope f))) c.self.view_is
    (c.in-None.ensures.value ∙ sym (last_in_scoped c.args.scope c.args.name.now c.self.inside.values.entries))
