-- The meaning of names, as the code holds it.
use Rattle.plan_scope.specs.declared.scope.Scope.{Scope}
use Rattle.plan_scope.specs.Scopes.{Text, Name, lookup}

-- The meaning of names in a scope.
abbrev pub names_in : Scope → Name → Text
names_in scope = lookup scope.bound.now scope.scopes.now
