use Rattle.std.proofs.Common.{◌≡◌, ◌++◌, take}
use Rattle.plan_world.proofs.record_file.RecordFile.take_in_each.Given as goal

-- the first entries of the others come after those that the record had
abbrev pub invariant-loop-number : goal.invariant-loop-number
invariant-loop-number g l =
    (l.self.entries ≡ l.fn.self.entries ++ take l.number l.others) × (l.self.file ≡ l.fn.self.file) × (l.self.broken ≡ l.fn.self.broken)
