use Rattle.std.proofs.Common.{◌≡◌, List, take, map}
use Rattle.plan_parse.specs.Compact.{path_in}
use Rattle.plan_scope.specs.Scopes.{Text, Name, Bindings, expand}
use Rattle.plan_scope.specs.Edges.{near}
use Rattle.plan_scope.specs.Kept.{kept, KeptEqBindings, KeptEqLookup}
use Rattle.plan_scope.specs.Paths.{ReadsPaths}
use Rattle.plan_scope.specs.ScopeNames.{names_in}
use Rattle.plan_scope.proofs.edge.paths.read_list.Given as goal

-- The expanded paths so far.
abbrev pub invariant-loop-path : goal.invariant-loop-path
invariant-loop-path l =
    (texts : List Text)
    × ReadsPaths l.fn.read texts l.read
    × ((b : Bindings Text) (m : Name → Text) → KeptEqBindings l.block b → KeptEqLookup (names_in l.here) m → map kept texts ≡ map kept (map (λ p. expand (near m b) (path_in l.text p)) (take l.path-index l.paths)))
