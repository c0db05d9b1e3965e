use Rattle.std.proofs.Common.{◌≡◌, ◌++◌, drop}
use Rattle.plan_record.specs.Compaction.{last_entries}
use Rattle.plan_record.proofs.record.copy_last.Given as goal

abbrev pub invariant-loop-number : goal.invariant-loop-number
invariant-loop-number l = l.last.items ++ last_entries (drop l.number (l.loaded ++ l.added)) ≡ last_entries (l.loaded ++ l.added)
