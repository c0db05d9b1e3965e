use Rattle.std.proofs.Common.{◌≡◌, ◌++◌, [], drop, get_or}
use Rattle.plan_world.specs.StartRecorded.{ended}
use Rattle.plan_world.proofs.record_file.RecordFile.ended.Given as goal

abbrev pub invariant-loop-number : goal.invariant-loop-number
invariant-loop-number g l = l.ends ++ ended l.self.entries (get_or l.outputs 0 []) (drop l.number l.outputs) ≡ ended l.self.entries (get_or l.outputs 0 []) l.outputs
