use Rattle.std.proofs.Common.{◌≡◌, ◌++◌, ℕ, true, List, drop}
use Rattle.plan_text.specs.Sinks.{Writes}
use Rattle.plan_scope.specs.TextLists.{whole}
use Rattle.plan_scope.proofs.edge.text_list.write_text.Given as goal

-- The parts that were written, and the parts that follow.
abbrev pub invariant-loop-number : goal.invariant-loop-number
invariant-loop-number g l =
    (done : List ℕ) × (done ++ whole (drop l.number l.text) ≡ whole l.text)
    × Writes true (g.W.Sink.failures l.fn.out, g.W.Sink.taken l.fn.out) (g.W.Sink.failures l.out, g.W.Sink.taken l.out) done
