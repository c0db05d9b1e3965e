use Rattle.std.specs.Prelude.{option_map}
use Rattle.plan_lanes.proofs.printed_run.PrintedRun.run.Given as goal

abbrev pub ghosts-run_named : goal.ghosts-run_named
ghosts-run_named g a = record { run = a.board.opened; feed = option_map (λ s. s.feed) a.line_progress }
