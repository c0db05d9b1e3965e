use Rattle.std.proofs.Common.{◌≡◌, ◌≤◌, ◌+◌, ◌++◌, length}
use Rattle.plan_trace.specs.Reading.{behind_targets, targets_of}
use Rattle.plan_trace.specs.Words.{parts_at}
use Rattle.plan_trace.proofs.reading.read_targets.Given as goal

abbrev pub invariant-loop-alloc : goal.invariant-loop-alloc
invariant-loop-alloc l =
    (l.targets.items ++ targets_of (parts_at 10 l.rest) ≡ targets_of (parts_at 10 l.text))
    × (behind_targets (parts_at 10 l.rest) ≡ behind_targets (parts_at 10 l.text))
    × (length l.targets.items + length l.rest ≤ length l.text)

abbrev pub decreases-loop-alloc : goal.decreases-loop-alloc
decreases-loop-alloc l = length l.rest
