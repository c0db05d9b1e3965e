use Rattle.std.proofs.Common.{◌≡◌, take}
use Rattle.std.specs.List.{flat_map}
use Rattle.plan_record.specs.Entries.{spelling}
use Rattle.plan_record.proofs.record.spellings.Given as goal

abbrev pub invariant-loop-entry : goal.invariant-loop-entry
invariant-loop-entry l = l.bytes.items ≡ flat_map spelling (take l.entry-index l.entries)
