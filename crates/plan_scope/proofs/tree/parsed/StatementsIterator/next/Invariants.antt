use Rattle.std.proofs.Common.{◌≡◌, length}
use Rattle.plan_scope.specs.FileStatements.{left_of}
use Rattle.plan_scope.proofs.tree.parsed.StatementsIterator.next.Given as goal

abbrev pub invariant-loop-self : goal.invariant-loop-self
invariant-loop-self l = left_of l.self-inside.segments.now l.self-inside.given ≡ left_of l.initial.self-inside.segments.now l.initial.self-inside.given

abbrev pub decreases-loop-self : goal.decreases-loop-self
decreases-loop-self l = length l.self-inside.segments.now
