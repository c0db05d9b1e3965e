use Rattle.std.proofs.Common.{take}
use Rattle.plan_record.specs.Outputs.{HasOneEach, IsIndexOf}
use Rattle.plan_record.proofs.record.numbers_of.Given as goal

abbrev pub invariant-loop-number : goal.invariant-loop-number
invariant-loop-number l = record {
  index : IsIndexOf l.numbers.entries (take l.number l.entries);
  each : HasOneEach l.numbers.entries (take l.number l.entries);
}
