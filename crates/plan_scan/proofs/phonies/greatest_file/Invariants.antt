use Rattle.std.proofs.Common.{◌≡◌, drop, map}
use Rattle.plan_compile.specs.Rule.{greatest_from}
use Rattle.plan_scan.specs.Steps.{stamp_at}
use Rattle.plan_scan.proofs.phonies.greatest_file.Given as goal

abbrev pub invariant-loop-file : goal.invariant-loop-file
invariant-loop-file l = greatest_from l.greatest (map (stamp_at l.stamps) (drop l.file-index l.files)) ≡ greatest_from l.stamp (map (stamp_at l.stamps) l.files)
