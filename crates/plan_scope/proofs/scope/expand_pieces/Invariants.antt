use Rattle.std.proofs.Common.{◌≡◌, ◌≤◌, ◌+◌, length, take}
use Rattle.plan_scope.specs.Scopes.{expand}
use Rattle.plan_text.specs.Limits.{max_text}
use Rattle.plan_scope.specs.Kept.{kept}
use Rattle.plan_scope.specs.ScopeNames.{names_in}
use Rattle.plan_scope.proofs.scope.expand_pieces.Given as goal

abbrev pub invariant-loop-piece : goal.invariant-loop-piece
invariant-loop-piece l = (kept l.text.items ≡ kept (expand (names_in l.scope) (take l.piece-index l.pieces))) × (length l.text.items ≤ max_text + 1)
