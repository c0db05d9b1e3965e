use Rattle.std.proofs.Common.{◌≡◌, ℕ, ◌+◌, ◌*◌, ◌≤◌, ◌++◌, List, Some, take, option_map}
use Rattle.plan_scope.specs.Expansion.{Meaning, meaning_of, joined}
use Rattle.plan_scope.specs.Kept.{kept}
use Rattle.plan_scope.specs.HeldEnvironment.{environment_of}
use Rattle.plan_scope.specs.Memo.{IsMemo, text_by}
use Rattle.plan_scope.specs.ShellQuoting.{quoted_as}
use Rattle.plan_scope.proofs.edge.expansion.+expansion.Given as goal

abbrev pub decreases-append_late : goal.decreases-append_late
decreases-append_late l = 4 * l.left

abbrev pub decreases-append_variable : goal.decreases-append_variable
decreases-append_variable l = 4 * l.left + 1

abbrev pub decreases-append_piece : goal.decreases-append_piece
decreases-append_piece l = 4 * l.left + 2

abbrev pub decreases-append_pieces : goal.decreases-append_pieces
decreases-append_pieces l = 4 * l.left + 3

-- The pieces so far are appended.
abbrev pub invariant-append_pieces-loop-piece : goal.invariant-append_pieces-loop-piece
invariant-append_pieces-loop-piece l =
    let meaning : List ℕ → Meaning = meaning_of (quoted_as l.quoting) (environment_of l.edge) in
    (l.deepest ≤ l.left)
    × (option_map (λ text. kept (l.fn.out.items ++ text)) (joined (text_by l.deepest meaning) (take l.piece-index l.pieces)) ≡ Some (kept l.out.items))
    × IsMemo meaning l.memo.items
