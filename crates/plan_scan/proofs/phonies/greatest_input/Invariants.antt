use Rattle.std.proofs.Common.{◌≡◌, drop, map}
use Rattle.plan_compile.specs.Rule.{greatest_from}
use Rattle.plan_scan.specs.Steps.{input_stamp}
use Rattle.plan_scan.proofs.phonies.greatest_input.Given as goal

abbrev pub invariant-loop-file : goal.invariant-loop-file
invariant-loop-file l = greatest_from l.greatest (map (input_stamp l.graph l.stamps l.found) (drop l.file-index l.files)) ≡ greatest_from l.stamp (map (input_stamp l.graph l.stamps l.found) l.files)
