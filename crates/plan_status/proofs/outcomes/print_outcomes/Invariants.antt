use Rattle.std.proofs.Common.{◌≡◌, ◌++◌, ℕ, true, List, drop}
use Rattle.plan_text.specs.Sinks.{Writes}
use Rattle.plan_status.specs.Outcomes.{outcomes_from, outcomes_of}
use Rattle.plan_status.proofs.outcomes.print_outcomes.Given as goal

-- the text that was written, followed by the text that is still to be written
abbrev pub invariant-loop-number : goal.invariant-loop-number
invariant-loop-number g l =
    (done : List ℕ) × (done ++ outcomes_from l.image l.state.run_state.now l.number (drop l.number l.image.edges) ≡ outcomes_of l.image l.state.run_state.now)
    × Writes true (g.W.Sink.failures l.fn.out, g.W.Sink.taken l.fn.out) (g.W.Sink.failures l.out, g.W.Sink.taken l.out) done
