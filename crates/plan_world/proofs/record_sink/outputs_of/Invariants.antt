use Rattle.std.proofs.Common.{◌≡◌, map, take}
use Rattle.plan_record.specs.Entries.{EntryData}
use Rattle.plan_world.proofs.record_sink.outputs_of.Given as goal

abbrev pub invariant-loop-entry : goal.invariant-loop-entry
invariant-loop-entry l = l.rows ≡ map (λ (x : EntryData). x.output) (take l.entry-index l.entries)
