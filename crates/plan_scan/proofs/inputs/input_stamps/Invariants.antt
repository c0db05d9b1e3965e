use Rattle.std.proofs.Common.{◌≡◌, ◌++◌, drop, map}
use Rattle.plan_scan.specs.Steps.{input_stamp}
use Rattle.plan_scan.proofs.inputs.input_stamps.Given as goal

abbrev pub invariant-loop-file : goal.invariant-loop-file
invariant-loop-file l = l.all.items ++ map (input_stamp l.graph l.stamps l.found) (drop l.file-index l.files) ≡ map (input_stamp l.graph l.stamps l.found) l.files
