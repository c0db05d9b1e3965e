use Rattle.std.proofs.Common.{◌≡◌, drop}
use Rattle.plan_reasons.specs.Reasons.{first_at, is_missing}
use Rattle.plan_reasons.proofs.finding.first_missing.Given as goal

abbrev pub invariant-loop-place : goal.invariant-loop-place
invariant-loop-place l = first_at is_missing l.place (drop l.place l.stamps) ≡ first_at is_missing 0 l.stamps
