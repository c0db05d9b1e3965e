use Rattle.std.proofs.Common.{◌≡◌, ◌++◌, ℕ, true, List, drop, map}
use Rattle.std.specs.List.{concat}
use Rattle.plan_text.specs.Sinks.{Writes}
use Rattle.plan_image.specs.Listing.{hex_byte}
use Rattle.plan_trace.proofs.hex.write_digits.Given as goal

-- the text that was written, followed by the text that is still to be written
abbrev pub invariant-loop-byte : goal.invariant-loop-byte
invariant-loop-byte g l =
    (done : List ℕ) × (done ++ concat (map hex_byte (drop l.byte-index l.bytes)) ≡ concat (map hex_byte l.bytes))
    × Writes true (g.W.Sink.failures l.fn.out, g.W.Sink.taken l.fn.out) (g.W.Sink.failures l.out, g.W.Sink.taken l.out) done
