use Rattle.std.proofs.Common.{◌≡◌, ◌++◌, drop}
use Rattle.plan_progress.specs.BuildLines.{first_line}
use Rattle.plan_progress.proofs.lines.first_line.Given as goal

abbrev pub invariant-loop-byte : goal.invariant-loop-byte
invariant-loop-byte l = l.line.items ++ first_line (drop l.byte-index l.text) ≡ first_line l.text
