use Rattle.std.proofs.Common.{◌≡◌, ◌++◌, ℕ, true, List, drop}
use Rattle.plan_text.specs.Sinks.{Writes}
use Rattle.plan_image.specs.Listing.{bytes_line, numbered}
use Rattle.plan_image.proofs.lister.each.write_texts.Given as goal

-- the text that was written, followed by the text that is still to be written
abbrev pub invariant-loop-number : goal.invariant-loop-number
invariant-loop-number g l =
    (done : List ℕ) × (done ++ numbered (bytes_line l.word) l.number (drop l.number l.texts) ≡ numbered (bytes_line l.word) 0 l.texts)
    × Writes true (g.W.Sink.failures l.fn.out, g.W.Sink.taken l.fn.out) (g.W.Sink.failures l.out, g.W.Sink.taken l.out) done
