use Rattle.std.proofs.Common.{◌≡◌, ◌-◌}
use Rattle.plan_record.proofs.ReadingLemmas.{behind}
use Rattle.plan_record.proofs.reading.skip_paths.Given as goal

abbrev pub invariant-loop : goal.invariant-loop
invariant-loop l = behind l.fn.count l.fn.bytes ≡ behind (l.fn.count - l.counter) l.rest
