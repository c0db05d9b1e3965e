use Rattle.plan_text.proofs.SharedRowsLemmas.{one_more}
use Rattle.plan_text.proofs.shared_rows.common_end.Goals as goal

pub loop-number-preserved : goal.loop-number-preserved
loop-number-preserved c =
    one_more c.loop-number.end c.in-Some.next c.larger-end.result c.loop-number.number c.args.first.now c.args.second.now c.larger-end.ensures.first c.larger-end.ensures.second c.loop-number.invariant c.in-Some.ensures
