use Rattle.std.proofs.Common.{◌≡◌, ◌++◌, ℕ, true, List, drop}
use Rattle.std.specs.List.{flat_map}
use Rattle.plan_text.specs.Sinks.{Writes}
use Rattle.plan_tools.specs.Pieces.{text_of}
use Rattle.plan_tools.proofs.json.write_pieces.Given as goal

-- what was written, and what is still written behind it
abbrev pub invariant-loop-part : goal.invariant-loop-part
invariant-loop-part g l =
    (done : List ℕ) × (done ++ flat_map (text_of) (drop l.part-index l.parts) ≡ flat_map (text_of) l.parts)
    × Writes true (g.W.Sink.failures l.fn.out, g.W.Sink.taken l.fn.out) (g.W.Sink.failures l.out, g.W.Sink.taken l.out) done
