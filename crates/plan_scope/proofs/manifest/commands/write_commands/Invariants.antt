use Rattle.std.proofs.Common.{◌≡◌, ◌++◌, ℕ, true, List, drop}
use Rattle.std.specs.List.{flat_map}
use Rattle.plan_text.specs.Sinks.{Writes}
use Rattle.plan_scope.specs.Edges.{command_line}
use Rattle.plan_scope.proofs.manifest.commands.write_commands.Given as goal

abbrev pub invariant-loop-number : goal.invariant-loop-number
invariant-loop-number g l =
    (done : List ℕ) × (done ++ flat_map command_line (drop l.number l.manifest.edges) ≡ flat_map command_line l.manifest.edges)
    × Writes true (g.W.Sink.failures l.fn.out, g.W.Sink.taken l.fn.out) (g.W.Sink.failures l.out, g.W.Sink.taken l.out) done
