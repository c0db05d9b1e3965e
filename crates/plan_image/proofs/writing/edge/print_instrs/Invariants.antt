use Rattle.std.proofs.Common.{◌≡◌, ◌++◌, ℕ, true, List, drop}
use Rattle.std.specs.List.{flat_map}
use Rattle.plan_image.specs.Columns.{lent_instrs}
use Rattle.plan_image.specs.Printing.{Prints}
use Rattle.plan_image.specs.Spelling.{instr}
use Rattle.plan_image.proofs.writing.edge.print_instrs.Given as goal

-- the bytes that were printed, followed by those that are still to be printed
abbrev pub invariant-loop-place : goal.invariant-loop-place
invariant-loop-place g l =
    (done : List ℕ) × (done ++ flat_map instr (drop l.place (lent_instrs l.instrs)) ≡ flat_map instr (lent_instrs l.instrs))
    × Prints true (l.fn.held.items, (g.W.Sink.failures l.fn.out, g.W.Sink.taken l.fn.out)) (l.held.items, (g.W.Sink.failures l.out, g.W.Sink.taken l.out)) done
