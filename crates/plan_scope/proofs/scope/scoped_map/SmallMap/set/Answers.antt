use Rattle.std.proofs.Common.{◌≡◌, ℕ, List, [], ◌∷◌, ◌++◌, subst}
use Rattle.plan_scope.specs.Scopes.{Bindings, last_of}
use Rattle.plan_scope.specs.Kept.{few_bindings, map_bindings}
use Rattle.plan_scope.proofs.SmallMapLemmas.{set_more}
use Rattle.plan_scope.proofs.scope.scoped_map.SmallMap.set.Goals as goal

pub returns : goal.returns
returns g c = record {
  bound =
      subst (λ (f : Bindings g.row.V.Denot). (n : List ℕ) → last_of n (few_bindings c.self.inside.few.items ++ map_bindings c.insert.new.self.entries) ≡ last_of n (f ++ (c.args.name.now, c.args.value) ∷ [])) c.self.view_is
      (set_more c.self.inside.few.items c.self.inside.more.entries c.insert.new.self.entries c.args.name c.args.value (λ q. c.in_ok-insert.ensures.updates.0 q));
}
