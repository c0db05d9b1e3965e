use Rattle.std.proofs.Common.{◌≡◌, drop}
use Rattle.std.specs.Prelude.{nat_lt}
use Rattle.plan_reasons.specs.Reasons.{first_at}
use Rattle.plan_reasons.proofs.sentences.first_earlier.Given as goal

abbrev pub invariant-loop-place : goal.invariant-loop-place
invariant-loop-place l = first_at (λ t. nat_lt t l.stamp) l.place (drop l.place l.stamps) ≡ first_at (λ t. nat_lt t l.stamp) 0 l.stamps
