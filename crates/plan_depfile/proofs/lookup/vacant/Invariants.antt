use Rattle.std.proofs.Common.{◌≢◌, ◌≤◌, ◌<◌, ℕ, get_or}
use Rattle.plan_depfile.proofs.lookup.vacant.Given as goal

abbrev pub invariant-loop-at : goal.invariant-loop-at
invariant-loop-at l = record {
  behind : l.start ≤ l.at;
  filled : (j : ℕ) → l.start ≤ j → j < l.at → get_or l.slots j 0 ≢ 0;
}
