use Rattle.std.proofs.Common.{◌≡◌, ◌++◌, ℕ, true, List, drop}
use Rattle.std.specs.List.{AllByRecursion, flat_map}
use Rattle.plan_image.specs.Printing.{Prints}
use Rattle.plan_image.specs.Spelling.{edge, EdgeFits}
use Rattle.plan_image.proofs.writing.edge.print_edges.Given as goal

-- the bytes that were printed, followed by those that are still to be printed, which fit
abbrev pub invariant-loop-number : goal.invariant-loop-number
invariant-loop-number g l =
    (done : List ℕ) × (done ++ flat_map edge (drop l.number l.edges) ≡ flat_map edge l.edges)
    × AllByRecursion EdgeFits (drop l.number l.edges)
    × Prints true (l.fn.held.items, (g.W.Sink.failures l.fn.out, g.W.Sink.taken l.fn.out)) (l.held.items, (g.W.Sink.failures l.out, g.W.Sink.taken l.out)) done
