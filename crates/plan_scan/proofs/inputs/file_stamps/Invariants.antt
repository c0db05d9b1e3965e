use Rattle.std.proofs.Common.{◌≡◌, ◌++◌, drop, map}
use Rattle.plan_scan.specs.Steps.{stamp_at}
use Rattle.plan_scan.proofs.inputs.file_stamps.Given as goal

abbrev pub invariant-loop-file : goal.invariant-loop-file
invariant-loop-file l = l.all.items ++ map (stamp_at l.stamps) (drop l.file-index l.files) ≡ map (stamp_at l.stamps) l.files
