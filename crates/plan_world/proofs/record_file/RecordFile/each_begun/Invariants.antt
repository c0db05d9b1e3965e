use Rattle.std.proofs.Common.{take}
use Rattle.plan_world.specs.StartRecorded.{AreBegun}
use Rattle.plan_world.proofs.record_file.RecordFile.each_begun.Given as goal

abbrev pub invariant-loop-number : goal.invariant-loop-number
invariant-loop-number g l = AreBegun l.wanted l.self.entries (take l.number l.outputs) l.entries.items
