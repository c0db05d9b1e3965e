use Rattle.std.proofs.Common.{take}
use Rattle.plan_lanes.specs.Recalled.{AreAmong}
use Rattle.plan_lanes.proofs.recalling.paths_among.Given as goal

-- those that were found are among the first paths
abbrev pub invariant-loop-number : goal.invariant-loop-number
invariant-loop-number l = AreAmong l.wanted (take l.number l.paths) l.found
