use Rattle.std.proofs.Common.{◌≡◌, ℕ, List, ap}
use Rattle.plan_scope.specs.Scopes.{Name, Text, lookup, bound_by}
use Rattle.plan_scope.proofs.ScopeLemmas.{stands}
use Rattle.plan_scope.proofs.LoaderLemmas.{taken_of}
use Rattle.plan_scope.proofs.tree.loader.included_path.Goals as goal

pub returns : goal.returns
returns c =
    let l = c.args.include.now.statement in
    let here : Name → Text = lookup (bound_by c.args.loaded.now) c.scopes.result.now in
    let is : here ≡ lookup (bound_by c.args.loaded.now) l.scopes = ap (λ (s : List ℕ). lookup (bound_by c.args.loaded.now) s) c.scopes.ensures in
    taken_of c.args.left here (lookup (bound_by c.args.loaded.now) l.scopes) c.args.include.now.path.now l.kind c.expand_included_path.result is c.requires
    (c.expand_included_path.ensures here (stands c.bound.result.now (bound_by c.args.loaded.now) c.bound.ensures c.scopes.result.now))
