use Rattle.std.proofs.Common.{sym, subst}
use Rattle.plan_scope.specs.Memo.{IsMemo}
use Rattle.plan_scope.proofs.MemoLemmas.{memo_more}
use Rattle.plan_scope.proofs.edge.expansion.memoize.Goals as goal

pub returns : goal.returns
returns c = λ meaning before text a t e k.
    subst (IsMemo meaning) (sym c.in_ok-push.ensures.items) (memo_more meaning c.args.memo.now.items _ a (text, t, c.in_ok-text.ensures before text e k))
