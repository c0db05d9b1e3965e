use Rattle.std.proofs.Common.{◌≡◌, ℕ, List, Option}
use Rattle.rtrb.specs.Ring.{received}
use Rattle.plan_status.specs.Formats.{HasPrinted}
use Rattle.plan_status.specs.Live.{SameTap}
use Rattle.plan_commands.proofs.printed_runs.print_along.Given as goal

abbrev pub invariant-loop : goal.invariant-loop
invariant-loop g l =
    ((start : ℕ × Option (List ℕ))
    → HasPrinted (g.F.Format.tells l.fn.printer.format l.image l.total) (received l.fn.tap.ring) l.fn.tap.stop start (g.O.Sink.failures l.fn.printer.out, g.O.Sink.taken l.fn.printer.out)
    → HasPrinted (g.F.Format.tells l.printer.format l.image l.total) (received l.tap.ring) l.tap.stop start (g.O.Sink.failures l.printer.out, g.O.Sink.taken l.printer.out))
    × SameTap l.fn.tap l.tap × (g.F.Format.kept l.printer.format ≡ g.F.Format.kept l.fn.printer.format)
