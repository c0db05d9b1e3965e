use Rattle.plan_scan.proofs.CommandLemmas.{AreFirst}
use Rattle.plan_scan.proofs.entries.stamps_of.Given as goal

abbrev pub invariant-loop-number : goal.invariant-loop-number
invariant-loop-number g l = AreFirst g.W.World.allows l.paths l.number l.stamps.items
