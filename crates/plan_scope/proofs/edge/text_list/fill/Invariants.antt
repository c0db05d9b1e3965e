use Rattle.std.proofs.Common.{◌≡◌, ◌≤◌, ◌-◌, List, ℕ, length}
use Rattle.std.specs.List.{All}
use Rattle.plan_scope.specs.Scopes.{Text}
use Rattle.plan_chunks.specs.Joining.{AreBelow}
use Rattle.plan_scope.specs.TextLists.{texts_from}
use Rattle.plan_scope.proofs.edge.text_list.fill.Given as goal

-- The appended rows change no text.
abbrev pub invariant-loop-rows : goal.invariant-loop-rows
invariant-loop-rows l = record {
  texts : (chunks texts : List Text) → texts_from chunks texts l.rows ≡ texts_from chunks texts l.fn.rows;
  below : (most : ℕ) → All (AreBelow most) l.fn.rows → All (AreBelow most) l.rows;
  within : length l.rows ≤ l.count;
}

abbrev pub decreases-loop-rows : goal.decreases-loop-rows
decreases-loop-rows l = l.count - length l.rows
