use Rattle.std.proofs.Common.{◌≡◌, ◌++◌, ℕ, true, List, drop, map}
use Rattle.plan_text.specs.Sinks.{Writes}
use Rattle.plan_image.specs.Listing.{hex}
use Rattle.plan_trace.specs.Spelling.{behind}
use Rattle.plan_trace.proofs.word_writer.write_paths.Given as goal

-- the text that was written, followed by the text that is still to be written
abbrev pub invariant-loop-number : goal.invariant-loop-number
invariant-loop-number g l =
    (done : List ℕ) × (done ++ behind (map hex (drop l.number l.paths)) ≡ behind (map hex l.paths))
    × Writes true (g.W.Sink.failures l.fn.out, g.W.Sink.taken l.fn.out) (g.W.Sink.failures l.out, g.W.Sink.taken l.out) done
