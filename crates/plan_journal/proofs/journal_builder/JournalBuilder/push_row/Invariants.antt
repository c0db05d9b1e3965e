use Rattle.std.proofs.Common.{◌≡◌, ◌++◌, drop, length}
use Rattle.plan_machine.specs.Sweeping.{row_events}
use Rattle.plan_journal.specs.Drafts.{HasRowRoom}
use Rattle.plan_journal.proofs.journal_builder.JournalBuilder.push_row.Given as goal

abbrev pub invariant-loop-stamp : goal.invariant-loop-stamp
invariant-loop-stamp g l =
    (l.self.events ++ row_events l.edge (drop l.stamp-index l.stamps) ≡ l.fn.self.events ++ row_events l.edge l.stamps) × HasRowRoom (length (drop l.stamp-index l.stamps)) l.self
