use Rattle.std.proofs.Common.{◌≡◌, Option, Some, None, ap, subst, sym, ◌∙◌}
use Rattle.std.specs.Prelude.{option_map}
use Rattle.plan_scope.specs.Scopes.{Bindings, last_of, or_else}
use Rattle.plan_scope.specs.Kept.{few_bindings, map_bindings}
use Rattle.plan_scope.proofs.SmallMapLemmas.{last_of_both, last_of_shown}
use Rattle.plan_scope.proofs.scope.scoped_map.SmallMap.get_among.Goals as goal

pub returns-in-Some : goal.returns-in-Some
returns-in-Some g c =
    let n = c.args.name.now in
    let few = few_bindings c.self.inside.few.items in
    let more = map_bindings c.self.inside.more.entries in
    let found : Some c.in-Some.value.now ≡ last_of n more = c.in-Some.ensures.value ∙ sym (last_of_shown n c.self.inside.more.entries) in
    subst (λ (f : Bindings g.row.V.Denot). Some c.in-Some.value.now ≡ last_of n f) c.self.view_is
    (ap (λ (o : Option g.row.V.Denot). or_else o (last_of n few)) found ∙ sym (last_of_both n few more))

pub returns-in-None : goal.returns-in-None
returns-in-None g c =
    let n = c.args.name.now in
    let few = few_bindings c.self.inside.few.items in
    let more = map_bindings c.self.inside.more.entries in
    let none : ◌≡◌ {A = Option g.row.V.Denot} None (last_of n more) = c.in-None.ensures.value ∙ sym (last_of_shown n c.self.inside.more.entries) in
    let front = c.last_among-in-None.ensures ∙ ap (λ es. last_of n (few_bindings es)) c.deref-in-None.ensures.value in
    subst (λ (f : Bindings g.row.V.Denot). option_map (λ v. v.now) c.last_among-in-None.result ≡ last_of n f) c.self.view_is
    (front ∙ (ap (λ (o : Option g.row.V.Denot). or_else o (last_of n few)) none ∙ sym (last_of_both n few more)))
