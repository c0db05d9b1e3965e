use Rattle.std.proofs.Common.{◌≡◌, ◌≤◌, ◌+◌, ◌-◌, length, drop}
use Rattle.plan_text.specs.Limits.{max_text}
use Rattle.plan_text.specs.Pieces.{pieces_from}
use Rattle.plan_text.specs.declared.piece_reader.Mode.TheVariants as mode
use Rattle.plan_scope.specs.Edges.{near}
use Rattle.plan_scope.specs.Kept.{kept}
use Rattle.plan_scope.specs.Scopes.{Text}
use Rattle.plan_scope.specs.ScopeNames.{names_in}
use Rattle.plan_scope.proofs.PathPartLemmas.{text_of, text_onto}
use Rattle.plan_scope.proofs.edge.paths.expand_path.Given as goal

-- The text of the parts so far, as far as it is kept.
abbrev pub invariant-loop-done : goal.invariant-loop-done
invariant-loop-done l =
    (l.done ≤ length l.path)
    × (length l.buffer.items ≤ max_text + 1)
    × (front : Text)
    × (kept l.buffer.items ≡ kept front)
    × (text_of (near (names_in l.here) l.block) (pieces_from mode.Path l.at l.path) ≡ text_onto front (text_of (near (names_in l.here) l.block) (pieces_from mode.Path (l.at + l.done) (drop l.done l.path))))

abbrev pub decreases-loop-done : goal.decreases-loop-done
decreases-loop-done l = length l.path - l.done
