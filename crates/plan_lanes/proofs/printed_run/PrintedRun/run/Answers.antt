use Rattle.plan_lanes.proofs.printed_run.PrintedRun.run.Goals as goal

pub returns-clause-ended : goal.returns-clause-ended
returns-clause-ended g c = c.to_result.ensures.ended c.self.inside.board.opened.parts c.run_named-report.ensures.run.state
