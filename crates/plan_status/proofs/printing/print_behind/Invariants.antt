use Rattle.std.proofs.Common.{◌≡◌, ◌≤◌, ◌++◌, ℕ, true, List, drop, take}
use Rattle.plan_text.specs.Sinks.{Writes}
use Rattle.plan_status.specs.Lines.{ends, lines_behind}
use Rattle.plan_status.proofs.printing.print_behind.Given as goal

-- the number of ends so far, and the text that was written, followed by the text that is still to be written
abbrev pub invariant-loop-at : goal.invariant-loop-at
invariant-loop-at g l =
    (done : List ℕ) × (l.n ≡ ends l.image (take l.at l.marks)) × (l.fn.from ≤ l.at)
    × (done ++ lines_behind l.image l.total (take l.at l.marks) (drop l.at l.marks) ≡ lines_behind l.image l.total (take l.fn.from l.marks) (drop l.fn.from l.marks))
    × Writes true (g.W.Sink.failures l.fn.out, g.W.Sink.taken l.fn.out) (g.W.Sink.failures l.out, g.W.Sink.taken l.out) done
