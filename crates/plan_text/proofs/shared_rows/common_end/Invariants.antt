use Rattle.plan_text.specs.SharedRows.{AreWithin}
use Rattle.plan_text.proofs.shared_rows.common_end.Given as goal

abbrev pub invariant-loop-number : goal.invariant-loop-number
invariant-loop-number l = AreWithin l.end l.first l.second l.number
