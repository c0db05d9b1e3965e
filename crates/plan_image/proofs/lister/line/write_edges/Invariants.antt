use Rattle.std.proofs.Common.{◌≡◌, ◌++◌, ℕ, true, List, drop}
use Rattle.plan_text.specs.Sinks.{Writes}
use Rattle.plan_image.specs.Listing.{edge_lines, numbered}
use Rattle.plan_image.proofs.lister.line.write_edges.Given as goal

-- the text that was written, followed by the text that is still to be written
abbrev pub invariant-loop-number : goal.invariant-loop-number
invariant-loop-number g l =
    (done : List ℕ) × (done ++ numbered edge_lines l.number (drop l.number l.edges) ≡ numbered edge_lines 0 l.edges)
    × Writes true (g.W.Sink.failures l.fn.out, g.W.Sink.taken l.fn.out) (g.W.Sink.failures l.out, g.W.Sink.taken l.out) done
