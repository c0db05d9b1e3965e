use Rattle.std.proofs.Common.{◌≡◌, ◌++◌, drop}
use Rattle.plan_progress.specs.Running.{without}
use Rattle.plan_progress.proofs.running.without.Given as goal

abbrev pub invariant-loop-other : goal.invariant-loop-other
invariant-loop-other l = l.others.items ++ without l.edge (drop l.other-index l.running) ≡ without l.edge l.running
