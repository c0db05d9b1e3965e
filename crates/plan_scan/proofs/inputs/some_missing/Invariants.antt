use Rattle.std.proofs.Common.{◌≡◌, drop}
use Rattle.std.specs.List.{list_any}
use Rattle.plan_scan.specs.Steps.{is_missing}
use Rattle.plan_scan.proofs.inputs.some_missing.Given as goal

abbrev pub invariant-loop-file : goal.invariant-loop-file
invariant-loop-file l = list_any (is_missing l.graph l.stamps) (drop l.file-index l.files) ≡ list_any (is_missing l.graph l.stamps) l.files
