use Rattle.std.proofs.Common.{◌≡◌, ◌++◌, ℕ, true, List, drop}
use Rattle.std.specs.List.{flat_map}
use Rattle.plan_text.specs.Sinks.{Writes}
use Rattle.plan_trace.specs.Spelling.{event_line}
use Rattle.plan_trace.proofs.writing.write_events.Given as goal

-- the text that was written, followed by the text that is still to be written
abbrev pub invariant-loop-event : goal.invariant-loop-event
invariant-loop-event g l =
    (done : List ℕ) × (done ++ flat_map event_line (drop l.event-index l.events) ≡ flat_map event_line l.events)
    × Writes true (g.W.Sink.failures l.fn.out, g.W.Sink.taken l.fn.out) (g.W.Sink.failures l.out, g.W.Sink.taken l.out) done
