use Rattle.std.proofs.Common.{◌≡◌, []}
use Rattle.plan_scope.specs.Edges.{manifest_past, with_front}
use Rattle.plan_scope.specs.Evaluation.{Fits, manifest_in}
use Rattle.plan_scope.specs.Found.{AreFound}
use Rattle.plan_scope.proofs.manifest.evaluator.evaluate_statements.Given as goal

abbrev pub invariant-loop-statement : goal.invariant-loop-statement
invariant-loop-statement l =
    Fits l.so_far l.yielded
    × (with_front (manifest_in l.so_far) (manifest_past l.tree l.yielded l.statement-iterator) ≡ with_front (manifest_in l.fn.so_far) (manifest_past l.tree [] l.tree))
    × AreFound l.so_far.rules l.facts.bound.now l.found.items
