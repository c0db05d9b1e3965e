use Rattle.std.proofs.Common.{◌≡◌, ◌++◌, ℕ, true, List, drop}
use Rattle.std.specs.List.{flat_map}
use Rattle.plan_text.specs.Sinks.{Writes}
use Rattle.plan_tools.specs.Listings.{output_line}
use Rattle.plan_tools.proofs.targets.write_outputs.Given as goal

-- what was written, and what is still written behind it
abbrev pub invariant-loop-output : goal.invariant-loop-output
invariant-loop-output g l =
    (done : List ℕ) × (done ++ flat_map (output_line l.graph l.rule) (drop l.output-index l.outputs) ≡ flat_map (output_line l.graph l.rule) l.outputs)
    × Writes true (g.W.Sink.failures l.fn.out, g.W.Sink.taken l.fn.out) (g.W.Sink.failures l.out, g.W.Sink.taken l.out) done
