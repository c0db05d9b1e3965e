use Rattle.std.proofs.Common.{◌≡◌, drop}
use Rattle.plan_scope.specs.Scopes.{nearest}
use Rattle.plan_scope.proofs.scope.scoped_map.ScopedMap.nearest.Given as goal

-- The scopes so far don't have the name.
abbrev pub invariant-loop-scope : goal.invariant-loop-scope
invariant-loop-scope g l = nearest l.self (drop l.scope-index l.scopes) l.name ≡ nearest l.self l.scopes l.name
