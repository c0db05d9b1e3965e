use Rattle.std.proofs.Common.{◌≡◌, None, drop}
use Rattle.plan_progress.specs.Command.{text_before_run}
use Rattle.plan_progress.proofs.edge_command.text_before_run.Given as goal

abbrev pub invariant-loop-place : goal.invariant-loop-place
invariant-loop-place l = text_before_run l.last (drop l.place l.code) ≡ text_before_run None l.code
