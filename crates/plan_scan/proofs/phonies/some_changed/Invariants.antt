use Rattle.std.proofs.Common.{◌≡◌, drop, map}
use Rattle.plan_compile.specs.Rule.{some_changed}
use Rattle.plan_scan.specs.Scans.{given}
use Rattle.plan_scan.proofs.phonies.some_changed.Given as goal

abbrev pub invariant-loop-file : goal.invariant-loop-file
invariant-loop-file l = some_changed (map (given l.graph l.found) (drop l.file-index l.files)) ≡ some_changed (map (given l.graph l.found) l.files)
