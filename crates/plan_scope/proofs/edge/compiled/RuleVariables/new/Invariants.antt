use Rattle.std.proofs.Common.{◌≡◌, option_map, take}
use Rattle.plan_scope.specs.Scopes.{Name, last_of}
use Rattle.plan_scope.specs.Edges.{late}
use Rattle.plan_scope.specs.Keys.{AreMarked}
use Rattle.plan_scope.proofs.edge.compiled.RuleVariables.new.Given as goal

abbrev pub invariant-loop-binding : goal.invariant-loop-binding
invariant-loop-binding l =
    ((n : Name) → option_map (λ p. p.now) (last_of n l.last) ≡ last_of n (late (take l.binding-index l.bindings)))
    × AreMarked l.marked (late (take l.binding-index l.bindings))
