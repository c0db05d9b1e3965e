use Rattle.std.proofs.Common.{sym, ◌∙◌}
use Rattle.plan_scope.proofs.SegmentLemmas.{first_given}
use Rattle.plan_scope.proofs.tree.parsed.StatementsIterator.next.Goals as goal

pub returns-then-number-len-clause-steps : goal.returns-then-number-len-clause-steps
returns-then-number-len-clause-steps c =
    sym c.self.view_is
    ∙ (sym c.loop-self.invariant
    ∙ first_given c.loop-self.self-inside.segments.now c.segment-item.result c.loop-self.self-inside.given c.statement.result c.in-len1-up.len_at_least c.segment-item.is c.statement.ensures)
