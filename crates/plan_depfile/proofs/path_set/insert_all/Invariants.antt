use Rattle.std.proofs.Common.{◌≡◌, length, take, drop}
use Rattle.plan_depfile.specs.Depfile.{with_paths}
use Rattle.plan_depfile.specs.PathSets.{ArePlaced}
use Rattle.plan_depfile.proofs.path_set.insert_all.Given as goal

abbrev pub invariant-loop-number : goal.invariant-loop-number
invariant-loop-number l = record {
  placed : ArePlaced l.paths l.table;
  added : with_paths l.paths (drop l.number l.more) ≡ with_paths l.initial.paths l.more;
  stays : take (length l.initial.paths) l.paths ≡ l.initial.paths;
}
