use Rattle.std.proofs.Common.{◌≡◌, List, sym, ap, subst, ◌∙◌}
use Rattle.std.specs.Prelude.{is_some}
use Rattle.plan_scope.specs.Scopes.{Name, last_of}
use Rattle.plan_scope.specs.Edges.{is_among}
use Rattle.plan_scope.proofs.PoolNameLemmas.{names_known, some_mapped}
use Rattle.plan_scope.proofs.edge.variables.PoolNames.contains.Goals as goal

pub returns : goal.returns
returns c =
    let got : is_some c.get.result ≡ is_some (last_of c.args.name.now c.self.inside.names) = sym (some_mapped (λ v. v.now) c.get.result) ∙ ap is_some c.get.ensures in
    subst (λ (f : List Name). c.is_some.result ≡ is_among f c.args.name.now) c.self.view_is
    (c.is_some.ensures ∙ (got ∙ sym (names_known c.args.name.now c.self.inside.names)))
