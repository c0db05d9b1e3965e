use Rattle.std.proofs.Common.{◌≡◌, ◌++◌, ℕ, true, List, drop}
use Rattle.plan_text.specs.Sinks.{Writes}
use Rattle.plan_scope.specs.TextLists.{whole}
use Rattle.plan_tools.specs.Json.{json_text}
use Rattle.plan_tools.proofs.json.write_json_parts.Given as goal

-- what was written, and what is still written after it
abbrev pub invariant-loop-number : goal.invariant-loop-number
invariant-loop-number g l =
    (done : List ℕ) × (done ++ json_text (whole (drop l.number l.text)) ≡ json_text (whole l.text))
    × Writes true (g.W.Sink.failures l.fn.out, g.W.Sink.taken l.fn.out) (g.W.Sink.failures l.out, g.W.Sink.taken l.out) done
