use Rattle.std.proofs.Common.{◌≡◌, ℕ, List, map, [], ◌∷◌, ◌++◌, subst, OnOk}
use Rattle.std.proofs.lemmas.Result.{on_ok_weaker}
use Rattle.plan_scope.specs.Scopes.{Name}
use Rattle.plan_scope.specs.Edges.{is_among}
use Rattle.plan_scope.proofs.PoolNameLemmas.{names_more}
use Rattle.plan_scope.proofs.edge.variables.PoolNames.insert.Goals as goal

pub returns : goal.returns
returns c = record {
  names =
      subst (λ (f : List Name). OnOk c.set.result ((n : List ℕ) → is_among (map (λ b. b.0) c.set.new.self) n ≡ is_among (f ++ c.args.name.now ∷ []) n)) c.self.view_is
      (on_ok_weaker c.set.result
      (λ known n. names_more c.self.inside.names c.set.new.self c.args.name.now n tt (known n))
      c.set.ensures.bound);
}
