use Rattle.std.proofs.Common.{option_map}
use Rattle.plan_scope.proofs.MemoLemmas.{found_more, near_enough, memo_at}
use Rattle.plan_scope.proofs.edge.expansion.recall.Goals as goal

pub returns-then-variable-left : goal.returns-then-variable-left
returns-then-variable-left c = λ meaning h.
    let variable = c.variable-item.result in
    let near = near_enough variable.depth c.args.left variable.name.now c.args.name.now c.eq.result c.eq.ensures c.if-variable-left.true in
    found_more meaning variable.depth c.args.left variable.name.now c.args.name.now c.args.out.now (option_map (λ f. (f.0, f.1.now)) c.text_of_entry.result) near.0 near.1
    (c.text_of_entry.ensures meaning (memo_at meaning c.args.memo.now c.loop-variable.variable-index variable c.loop-variable-test.true c.variable-item.is h))
