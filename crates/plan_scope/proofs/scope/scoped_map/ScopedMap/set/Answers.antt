use Rattle.std.proofs.Common.{◌≡◌, ℕ, List, [], ◌∷◌, ◌++◌, subst, ap, ◌∙◌}
use Rattle.plan_scope.specs.Scopes.{ScopedBindings, frame, last_of}
use Rattle.plan_scope.specs.Keys.{scoped_by}
use Rattle.plan_scope.proofs.ScopedMapLemmas.{marked_set, set_scoped}
use Rattle.plan_scope.proofs.scope.scoped_map.ScopedMap.set.Goals as goal

pub returns : goal.returns
returns g c = record {
  bound =
      subst (λ (f : ScopedBindings g.row.V.Denot). (s : ℕ) (n : List ℕ) → last_of n (frame s (scoped_by c.insert.new.self.entries)) ≡ last_of n (frame s (f ++ (c.args.scope, (c.args.name.now, c.args.value)) ∷ []))) c.self.view_is
      (set_scoped c.self.inside.values.entries c.insert.new.self.entries (record { scope = c.args.scope; name = c.extend_from_slice.new.self }) c.args.name.now c.args.value (c.in_ok-extend_from_slice.ensures.items ∙ ap (λ (x : List ℕ). x ++ c.args.name.now) c.new-own_name.ensures.items) c.in_ok-insert.ensures.entries);
}

pub invariant_of-self-2 : goal.invariant_of-self-2
invariant_of-self-2 g c =
    marked_set c.self.inside.values.entries c.insert.new.self.entries c.self.inside.marked c.mark.result (record { scope = c.args.scope; name = c.extend_from_slice.new.self }) c.args.name.now c.args.value
    c.self.invariant c.mark.ensures.mark c.mark.ensures.within
    (c.in_ok-extend_from_slice.ensures.items ∙ ap (λ (x : List ℕ). x ++ c.args.name.now) c.new-own_name.ensures.items) c.in_ok-insert.ensures.entries
