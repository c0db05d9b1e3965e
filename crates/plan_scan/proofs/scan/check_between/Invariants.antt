use Rattle.plan_scan.specs.Steps.{AreUpToDate}
use Rattle.plan_scan.proofs.scan.check_between.Given as goal

abbrev pub invariant-loop-number : goal.invariant-loop-number
invariant-loop-number g l = AreUpToDate g.W.World.allows l.manifest l.graph l.scan.found.items l.scan.wanted.items l.from l.number
