use Rattle.std.proofs.Common.{◌≡◌, take, map}
use Rattle.plan_scope.specs.Scopes.{Text, Name}
use Rattle.plan_scope.specs.Edges.{paths_of}
use Rattle.plan_scope.specs.Kept.{kept, KeptEqLookup}
use Rattle.plan_scope.specs.ScopeNames.{names_in}
use Rattle.plan_scope.proofs.manifest.defaults.expand_targets.Given as goal

abbrev pub invariant-loop-path : goal.invariant-loop-path
invariant-loop-path l = (m : Name → Text) → KeptEqLookup (names_in l.here) m → map kept l.texts.items ≡ map kept (paths_of m (take l.path-index l.paths))
