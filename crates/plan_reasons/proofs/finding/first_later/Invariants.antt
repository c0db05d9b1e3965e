use Rattle.std.proofs.Common.{◌≡◌, drop}
use Rattle.std.specs.Prelude.{nat_lt}
use Rattle.plan_reasons.specs.Reasons.{first_at}
use Rattle.plan_reasons.proofs.finding.first_later.Given as goal

abbrev pub invariant-loop-place : goal.invariant-loop-place
invariant-loop-place l = first_at (nat_lt l.baseline) l.place (drop l.place l.stamps) ≡ first_at (nat_lt l.baseline) 0 l.stamps
