use Rattle.std.proofs.Common.{◌≡◌, ◌++◌, drop}
use Rattle.plan_progress.specs.BuildLines.{paths_text}
use Rattle.plan_progress.proofs.failures.paths_text.Given as goal

abbrev pub invariant-loop-file : goal.invariant-loop-file
invariant-loop-file l = l.text.items ++ paths_text l.image (drop l.file-index l.files) ≡ paths_text l.image l.files
