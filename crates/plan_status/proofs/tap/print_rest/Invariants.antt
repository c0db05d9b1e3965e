use Rattle.std.proofs.Common.{◌≡◌, ◌≤◌, ℕ, List, Option, take}
use Rattle.plan_status.specs.Formats.{HasPrinted}
use Rattle.plan_status.proofs.tap.print_rest.Given as goal

abbrev pub invariant-loop-at : goal.invariant-loop-at
invariant-loop-at g l =
    ((start : ℕ × Option (List ℕ)) → HasPrinted (g.F.Format.tells l.fn.format l.image l.total) (take l.fn.from l.marks) l.fn.stop start (g.W.Sink.failures l.fn.out, g.W.Sink.taken l.fn.out)
    → HasPrinted (g.F.Format.tells l.format l.image l.total) (take l.at l.marks) l.stop start (g.W.Sink.failures l.out, g.W.Sink.taken l.out))
    × (g.F.Format.kept l.format ≡ g.F.Format.kept l.fn.format) × (l.fn.from ≤ l.at)
