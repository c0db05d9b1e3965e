use Rattle.std.proofs.Common.{◌≡◌, ◌++◌, length}
use Rattle.plan_chunks.specs.Joining.{AreBelow, HasMore, joined}
use Rattle.plan_scope.proofs.edge.text_list.cut_text.Given as goal

-- The chunks so far, followed by the rest, are the text.
abbrev pub invariant-loop-rest : goal.invariant-loop-rest
invariant-loop-rest l =
    (joined l.chunks l.numbers.items ++ l.rest ≡ l.text)
    × AreBelow (length l.chunks) l.numbers.items
    × HasMore l.fn.chunks l.chunks

abbrev pub decreases-loop-rest : goal.decreases-loop-rest
decreases-loop-rest l = length l.rest
