use Rattle.std.proofs.Common.{◌≡◌, ◌+◌, ◌++◌, ℕ, List, Option, length}
use Rattle.rtrb.specs.Ring.{known_items, received, sent}
use Rattle.plan_status.specs.Formats.{HasPrinted}
use Rattle.plan_status.proofs.tap.Tap.drain.Given as goal

abbrev pub invariant-loop : goal.invariant-loop
invariant-loop g l =
    ((start : ℕ × Option (List ℕ)) → HasPrinted (g.F.Format.tells l.fn.format l.image l.total) (received l.fn.self.ring) l.fn.self.stop start (g.W.Sink.failures l.fn.out, g.W.Sink.taken l.fn.out)
    → HasPrinted (g.F.Format.tells l.format l.image l.total) (received l.self.ring) l.self.stop start (g.W.Sink.failures l.out, g.W.Sink.taken l.out))
    × (received l.self.ring ++ known_items l.self.ring ≡ sent l.fn.feed.ring)
    × (length (known_items l.self.ring) + l.counter ≡ l.count)
    × (g.F.Format.kept l.format ≡ g.F.Format.kept l.fn.format)
