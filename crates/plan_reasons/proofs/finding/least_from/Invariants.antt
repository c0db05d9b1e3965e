use Rattle.std.proofs.Common.{◌≡◌, drop}
use Rattle.plan_compile.specs.Rule.{least_from}
use Rattle.plan_reasons.proofs.finding.least_from.Given as goal

abbrev pub invariant-loop-other : goal.invariant-loop-other
invariant-loop-other l = least_from l.least (drop l.other-index l.others) ≡ least_from l.stamp l.others
