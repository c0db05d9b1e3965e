use Rattle.std.proofs.Common.{◌≡◌, map, take}
use Rattle.std.specs.List.{list_any}
use Rattle.plan_parse.specs.Compact.{variable_in}
use Rattle.plan_scope.specs.Scopes.{Text, Name, is_too_long}
use Rattle.plan_scope.specs.Edges.{block_of}
use Rattle.plan_scope.specs.Kept.{KeptEqBindings, KeptEqLookup}
use Rattle.plan_scope.specs.ScopeNames.{names_in}
use Rattle.plan_scope.proofs.edge.paths.block.Given as goal

abbrev pub invariant-loop-binding : goal.invariant-loop-binding
invariant-loop-binding l =
    (meant : Name → Text) → KeptEqLookup (names_in l.here) meant
    → KeptEqBindings l.values (block_of meant (map (variable_in l.source) (take l.binding-index l.bindings)))
    × (l.has_long ≡ list_any (λ x. is_too_long x.1) (block_of meant (map (variable_in l.source) (take l.binding-index l.bindings))))
