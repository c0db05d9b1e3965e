use Rattle.plan_scan.specs.Steps.{AreStampsBetween}
use Rattle.plan_scan.proofs.files.stamps_between.Given as goal

abbrev pub invariant-loop-number : goal.invariant-loop-number
invariant-loop-number g l = AreStampsBetween g.W.World.allows l.graph l.from l.number l.stamps.items
