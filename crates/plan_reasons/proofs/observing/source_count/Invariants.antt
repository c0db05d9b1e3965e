use Rattle.std.proofs.Common.{◌≡◌, ◌+◌, ◌≤◌, drop}
use Rattle.plan_reasons.specs.Facts.{source_count}
use Rattle.plan_reasons.proofs.observing.source_count.Given as goal

abbrev pub invariant-loop-input : goal.invariant-loop-input
invariant-loop-input l = (l.count + source_count (drop l.input-index l.named) ≡ source_count l.named) × (l.count ≤ l.input-index)
