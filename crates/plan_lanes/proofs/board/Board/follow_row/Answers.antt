use Rattle.plan_lanes.proofs.BatchLemmas.{goes_on}
use Rattle.plan_lanes.proofs.board.Board.follow_row.Goals as goal

pub returns-in-Some-clause-goes : goal.returns-in-Some-clause-goes
returns-in-Some-clause-goes g c = goes_on c.args.self.now c.take_row.new.self c.follow.new.self c.take_row.ensures.goes c.follow.ensures.goes
