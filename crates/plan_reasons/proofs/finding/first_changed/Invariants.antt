use Rattle.std.proofs.Common.{◌≡◌, drop}
use Rattle.plan_reasons.specs.Reasons.{first_changed}
use Rattle.plan_reasons.proofs.finding.first_changed.Given as goal

abbrev pub invariant-loop-place : goal.invariant-loop-place
invariant-loop-place l = first_changed l.place (drop l.place l.named) ≡ first_changed 0 l.named
