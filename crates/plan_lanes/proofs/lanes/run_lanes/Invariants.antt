use Rattle.std.specs.Prelude.{None}
use Rattle.plan_lanes.proofs.lanes.run_lanes.Given as goal

abbrev pub ghosts-run_named : goal.ghosts-run_named
ghosts-run_named g a = record { run = a.board.opened; feed = None }
