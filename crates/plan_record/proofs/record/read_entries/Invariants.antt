use Rattle.std.proofs.Common.{◌≡◌, ◌-◌, length}
use Rattle.plan_record.specs.Entries.{IsWholeFront}
use Rattle.plan_record.proofs.record.read_entries.Given as goal

abbrev pub invariant-loop-rest : goal.invariant-loop-rest
invariant-loop-rest l = record {
  file : l.file.value.items ≡ l.fn.bytes.items;
  front : IsWholeFront l.fn.bytes.items l.entries.items l.start;
}

abbrev pub decreases-loop-rest : goal.decreases-loop-rest
decreases-loop-rest l = length l.file.value.items - l.start
