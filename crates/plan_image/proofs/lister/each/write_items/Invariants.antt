use Rattle.std.proofs.Common.{◌≡◌, ◌++◌, ℕ, true, List, drop}
use Rattle.plan_text.specs.Sinks.{Writes}
use Rattle.plan_image.specs.Listing.{numbered}
use Rattle.plan_image.proofs.lister.each.write_items.Given as goal

-- the text that was written, followed by the text that is still to be written
abbrev pub invariant-loop-number : goal.invariant-loop-number
invariant-loop-number g l =
    (done : List ℕ) × (done ++ numbered g.T.Listed.lines l.number (drop l.number l.items) ≡ numbered g.T.Listed.lines 0 l.items)
    × Writes true (g.W.Sink.failures l.fn.out, g.W.Sink.taken l.fn.out) (g.W.Sink.failures l.out, g.W.Sink.taken l.out) done
