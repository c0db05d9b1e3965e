use Rattle.std.proofs.Common.{◌≡◌, ◌++◌, ℕ, true, List, length}
use Rattle.std.specs.List.{flat_map}
use Rattle.plan_text.specs.Sinks.{Writes}
use Rattle.plan_tools.specs.Tree.{branch_line, lines_left}
use Rattle.plan_tools.proofs.tree.write_left.Given as goal

-- what was written, and what is still written behind it
abbrev pub invariant-lines : goal.invariant-lines
invariant-lines g l =
    (done : List ℕ) × (done ++ flat_map (branch_line l.graph l.rules) (lines_left l.graph l.stack.items) ≡ flat_map (branch_line l.graph l.rules) (lines_left l.graph l.fn.stack.items))
    × Writes true (g.W.Sink.failures l.fn.out, g.W.Sink.taken l.fn.out) (g.W.Sink.failures l.out, g.W.Sink.taken l.out) done

abbrev pub decreases-lines : goal.decreases-lines
decreases-lines g l = length (lines_left l.graph l.stack.items)
