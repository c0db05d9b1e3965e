use Rattle.std.proofs.Common.{◌≡◌, map}
use Rattle.plan_commands.specs.Building as defined
use Rattle.plan_commands.specs.Showing.{by_format}
use Rattle.plan_commands.proofs.BuildingLemmas.{AreRounds}
use Rattle.plan_commands.proofs.building.build_in_rounds.Given as goal

abbrev pub invariant-loop : goal.invariant-loop
invariant-loop g l =
    (g.F.Format.kept l.printer.format ≡ g.F.Format.kept l.fn.printer.format)
    × AreRounds (g.S.Source.gives l.fn.source) (g.S.Source.gives l.source) (g.S.Source.fails l.fn.source) (g.S.Source.fails l.source) (g.S.Source.failures l.fn.source) (g.S.Source.failures l.source)
    (by_format g.F.Format.kept g.F.Format.tells (g.F.Format.kept l.fn.printer.format)) g.W.World.allows
    (defined.asked l.fn.order.manifest.now l.fn.order.options (map (λ n. n.now) l.fn.order.targets.now)) l.counter (g.O.Sink.failures l.fn.printer.out, g.O.Sink.taken l.fn.printer.out) (g.O.Sink.failures l.printer.out, g.O.Sink.taken l.printer.out)
