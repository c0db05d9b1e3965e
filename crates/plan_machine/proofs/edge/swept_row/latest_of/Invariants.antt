use Rattle.std.proofs.Common.{◌≡◌, drop}
use Rattle.std.specs.List.{fold}
use Rattle.plan_verify.specs.Turn.{later}
use Rattle.plan_machine.proofs.edge.swept_row.latest_of.Given as goal

abbrev pub invariant-loop-stamp : goal.invariant-loop-stamp
invariant-loop-stamp l = fold later l.latest (drop l.stamp-index l.stamps) ≡ fold later l.first l.stamps
