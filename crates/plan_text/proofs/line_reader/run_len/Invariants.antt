use Rattle.std.proofs.Common.{◌≡◌, ◌≤◌, length, ◌+◌, ◌-◌, drop}
use Rattle.plan_text.specs.Runs.{run}
use Rattle.plan_text.proofs.line_reader.run_len.Given as goal

abbrev pub invariant-loop-at : goal.invariant-loop-at
invariant-loop-at g l = record {
  within : l.at ≤ length l.text;
  same : l.at + run g.U.Unit.size (drop l.at l.text) ≡ run g.U.Unit.size l.text;
}

abbrev pub decreases-loop-at : goal.decreases-loop-at
decreases-loop-at g l = length l.text - l.at
