use Rattle.std.proofs.Common.{◌≡◌, drop}
use Rattle.std.specs.List.{list_all}
use Rattle.plan_scan.specs.Steps.{stands_alone}
use Rattle.plan_scan.proofs.phonies.stand_alone.Given as goal

abbrev pub invariant-loop-file : goal.invariant-loop-file
invariant-loop-file l = list_all (stands_alone l.stamps l.found) (drop l.file-index l.files) ≡ list_all (stands_alone l.stamps l.found) l.files
