use Rattle.std.proofs.Common.{◌≢◌, ◌≤◌, ◌<◌, ℕ, get_or}
use Rattle.plan_depfile.specs.PathSets.{LeadElsewhere}
use Rattle.plan_depfile.proofs.lookup.find.Given as goal

abbrev pub invariant-loop-at : goal.invariant-loop-at
invariant-loop-at l = record {
  behind : l.start ≤ l.at;
  filled : (j : ℕ) → l.start ≤ j → j < l.at → get_or l.slots j 0 ≢ 0;
  others : LeadElsewhere l.paths l.slots l.start l.at l.path;
}
