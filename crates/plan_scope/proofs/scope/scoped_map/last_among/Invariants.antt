use Rattle.std.proofs.Common.{◌≡◌, take, option_map}
use Rattle.plan_scope.specs.Scopes.{last_of}
use Rattle.plan_scope.specs.Kept.{few_bindings}
use Rattle.plan_scope.proofs.scope.scoped_map.last_among.Given as goal

abbrev pub invariant-loop-entry : goal.invariant-loop-entry
invariant-loop-entry g l = option_map (λ v. v.now) l.last ≡ last_of l.name (few_bindings (take l.entry-index l.few))
