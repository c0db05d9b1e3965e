use Rattle.std.proofs.Common.{◌+◌, ◌*◌, take}
use Rattle.plan_scope.specs.Expansion.{joined}
use Rattle.plan_scope.specs.Memo.{text_by}
use Rattle.plan_scope.specs.Compiled.{AddsParts}
use Rattle.plan_scope.specs.ScopeNames.{names_in}
use Rattle.plan_scope.proofs.edge.compiled.+compiling.Given as goal

abbrev pub decreases-add_late : goal.decreases-add_late
decreases-add_late l = 4 * l.left

abbrev pub decreases-add_variable : goal.decreases-add_variable
decreases-add_variable l = 4 * l.left + 1

abbrev pub decreases-add_piece : goal.decreases-add_piece
decreases-add_piece l = 4 * l.left + 2

abbrev pub decreases-add_pieces : goal.decreases-add_pieces
decreases-add_pieces l = 4 * l.left + 3

-- The pieces so far are added.
abbrev pub invariant-add_pieces-loop-piece : goal.invariant-add_pieces-loop-piece
invariant-add_pieces-loop-piece l = AddsParts l.rule (names_in l.file) l.fn.parts.items l.parts.items (λ meaning. joined (text_by l.left meaning) (take l.piece-index l.pieces))
