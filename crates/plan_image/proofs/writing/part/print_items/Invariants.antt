use Rattle.std.proofs.Common.{◌≡◌, ◌++◌, ℕ, true, List, drop}
use Rattle.std.specs.List.{flat_map}
use Rattle.plan_image.specs.Printing.{Prints}
use Rattle.plan_image.proofs.writing.part.print_items.Given as goal

-- the bytes that were printed, followed by those that are still to be printed
abbrev pub invariant-loop-number : goal.invariant-loop-number
invariant-loop-number g l =
    (done : List ℕ) × (done ++ flat_map g.T.Spelled.spell (drop l.number l.items) ≡ flat_map g.T.Spelled.spell l.items)
    × Prints true (l.fn.held.items, (g.W.Sink.failures l.fn.out, g.W.Sink.taken l.fn.out)) (l.held.items, (g.W.Sink.failures l.out, g.W.Sink.taken l.out)) done
