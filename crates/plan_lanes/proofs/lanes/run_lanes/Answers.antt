use Rattle.plan_lanes.proofs.lanes.run_lanes.Goals as goal

pub returns-clause-ended : goal.returns-clause-ended
returns-clause-ended g c = c.to_result.ensures.ended c.in-Ok.board.opened.parts c.run_named-report.ensures.run.state
