use Rattle.std.proofs.Common.{◌≡◌, ◌≤◌, ◌+◌, length}
use Rattle.plan_trace.specs.Reading.{events_of}
use Rattle.plan_trace.specs.Words.{parts_at}
use Rattle.plan_trace.proofs.ReadingLemmas.{with_front}
use Rattle.plan_trace.proofs.reading.read_events.Given as goal

abbrev pub invariant-loop-rest : goal.invariant-loop-rest
invariant-loop-rest l =
    (with_front l.events.items (events_of l.line (parts_at 10 l.rest)) ≡ events_of l.number (parts_at 10 l.text))
    × (l.line + length l.rest ≤ l.number + length l.text)

abbrev pub decreases-loop-rest : goal.decreases-loop-rest
decreases-loop-rest l = length l.rest
