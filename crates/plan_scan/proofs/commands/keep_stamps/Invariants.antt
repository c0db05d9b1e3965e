use Rattle.std.proofs.Common.{◌≡◌, drop}
use Rattle.std.specs.List.{list_all}
use Rattle.plan_scan.specs.Steps.{keeps_stamp}
use Rattle.plan_scan.proofs.commands.keep_stamps.Given as goal

abbrev pub invariant-loop-file : goal.invariant-loop-file
invariant-loop-file l = list_all (keeps_stamp l.stamps l.found) (drop l.file-index l.files) ≡ list_all (keeps_stamp l.stamps l.found) l.files
