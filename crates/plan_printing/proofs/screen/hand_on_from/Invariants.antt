use Rattle.std.proofs.Common.{◌≡◌, ◌≤◌, ◌-◌, length, drop}
use Rattle.std.specs.Io.KnownBytes.{Keeps, append_known}
use Rattle.plan_printing.proofs.screen.hand_on_from.Given as goal

-- Nothing is lost, and no write has failed.
abbrev pub invariant-loop-place : goal.invariant-loop-place
invariant-loop-place g l =
    Keeps (append_known (g.W.Sink.taken l.fn.out) (drop l.fn.start l.bytes)) (append_known (g.W.Sink.taken l.out) (drop l.place l.bytes))
    × ((g.W.Sink.failures l.out ≡ g.W.Sink.failures l.fn.out) × (l.place ≤ length l.bytes))

abbrev pub decreases-loop-place : goal.decreases-loop-place
decreases-loop-place g l = length l.bytes - l.place
