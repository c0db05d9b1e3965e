use Rattle.std.proofs.Common.{◌+◌, ℕ, drop, length, subst}
use Rattle.plan_journal.specs.Drafts.{HasRowRoom}
use Rattle.plan_journal.proofs.RowLemmas.{length_more, row_more}
use Rattle.plan_journal.proofs.journal_builder.JournalBuilder.push_row.Goals as goal

pub loop-stamp-preserved : goal.loop-stamp-preserved
loop-stamp-preserved g c =
    let stamps = c.args.stamps.now in
    let i = c.loop-stamp.stamp-index in
    let lt = c.loop-stamp-test.true in (
      row_more stamps i c.args.edge c.loop-stamp.self.events c.push_swept.new.self.events _ lt c.push_swept.ensures.events c.loop-stamp.invariant.0,
      c.push_swept.ensures.room (length (drop (i + 1) stamps)) (subst (λ (n : ℕ). HasRowRoom n c.loop-stamp.self) (length_more stamps i lt) c.loop-stamp.invariant.1),
    )
