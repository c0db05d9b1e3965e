use Rattle.std.proofs.Common.{◌≡◌, drop}
use Rattle.std.specs.List.{list_all}
use Rattle.plan_scan.specs.Steps.{is_gathered}
use Rattle.plan_scan.proofs.phonies.are_gathered.Given as goal

abbrev pub invariant-loop-file : goal.invariant-loop-file
invariant-loop-file l = list_all (is_gathered l.stamps l.found l.left.stamp l.left.changed) (drop l.file-index l.files) ≡ list_all (is_gathered l.stamps l.found l.left.stamp l.left.changed) l.files
