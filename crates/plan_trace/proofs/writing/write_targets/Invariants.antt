use Rattle.std.proofs.Common.{◌≡◌, ◌++◌, ℕ, true, List, drop}
use Rattle.std.specs.List.{flat_map}
use Rattle.plan_text.specs.Sinks.{Writes}
use Rattle.plan_trace.specs.Spelling.{target_line}
use Rattle.plan_trace.proofs.writing.write_targets.Given as goal

-- the text that was written, followed by the text that is still to be written
abbrev pub invariant-loop-target : goal.invariant-loop-target
invariant-loop-target g l =
    (done : List ℕ) × (done ++ flat_map target_line (drop l.target-index l.targets) ≡ flat_map target_line l.targets)
    × Writes true (g.W.Sink.failures l.fn.out, g.W.Sink.taken l.fn.out) (g.W.Sink.failures l.out, g.W.Sink.taken l.out) done
