use Rattle.std.proofs.Common.{◌≡◌, ◌++◌, ℕ, true, List, drop}
use Rattle.std.specs.List.{flat_map}
use Rattle.plan_text.specs.Sinks.{Writes}
use Rattle.plan_tools.specs.Commands.{command_line}
use Rattle.plan_tools.proofs.commands.write_build_commands.Given as goal

-- what was written, and what is still written behind it
abbrev pub invariant-loop-edge : goal.invariant-loop-edge
invariant-loop-edge g l =
    (done : List ℕ) × (done ++ flat_map (command_line l.manifest) (drop l.edge-index l.edges) ≡ flat_map (command_line l.manifest) l.edges)
    × Writes true (g.W.Sink.failures l.fn.out, g.W.Sink.taken l.fn.out) (g.W.Sink.failures l.out, g.W.Sink.taken l.out) done
