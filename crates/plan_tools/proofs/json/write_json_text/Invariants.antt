use Rattle.std.proofs.Common.{◌≡◌, ◌++◌, ℕ, true, List, drop}
use Rattle.std.specs.List.{flat_map}
use Rattle.plan_text.specs.Sinks.{Writes}
use Rattle.plan_tools.specs.Json.{json_byte}
use Rattle.plan_tools.proofs.json.write_json_text.Given as goal

-- what was written, and what is still written behind it
abbrev pub invariant-loop-byte : goal.invariant-loop-byte
invariant-loop-byte g l =
    (done : List ℕ) × (done ++ flat_map (json_byte) (drop l.byte-index l.text) ≡ flat_map (json_byte) l.text)
    × Writes true (g.W.Sink.failures l.fn.out, g.W.Sink.taken l.fn.out) (g.W.Sink.failures l.out, g.W.Sink.taken l.out) done
