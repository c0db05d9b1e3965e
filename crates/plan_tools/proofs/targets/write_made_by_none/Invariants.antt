use Rattle.std.proofs.Common.{◌≡◌, ◌++◌, ℕ, true, List, drop}
use Rattle.std.specs.List.{flat_map}
use Rattle.plan_text.specs.Sinks.{Writes}
use Rattle.plan_tools.specs.Listings.{source_line}
use Rattle.plan_tools.proofs.targets.write_made_by_none.Given as goal

-- what was written, and what is still written behind it
abbrev pub invariant-loop-input : goal.invariant-loop-input
invariant-loop-input g l =
    (done : List ℕ) × (done ++ flat_map (source_line l.graph) (drop l.input-index l.inputs) ≡ flat_map (source_line l.graph) l.inputs)
    × Writes true (g.W.Sink.failures l.fn.out, g.W.Sink.taken l.fn.out) (g.W.Sink.failures l.out, g.W.Sink.taken l.out) done
