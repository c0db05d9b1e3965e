use Rattle.std.proofs.Common.{ℕ, true}
use Rattle.plan_text.specs.Sinks.{Writes}
use Rattle.plan_tools.specs.Listings.{of_first, edge_lines}
use Rattle.plan_tools.proofs.targets.write_all_targets.Given as goal

-- what comes of the edges so far was written
abbrev pub invariant-loop-edge : goal.invariant-loop-edge
invariant-loop-edge g l = Writes true (g.W.Sink.failures l.fn.out, g.W.Sink.taken l.fn.out) (g.W.Sink.failures l.out, g.W.Sink.taken l.out) (of_first (edge_lines l.graph l.rules) l.edge)
