use Rattle.std.proofs.Common.{refl}
use Rattle.plan_lanes.proofs.ProceedLemmas.{followed_awaits}
use Rattle.plan_lanes.proofs.RestLemmas.{follows_rests}
use Rattle.plan_lanes.proofs.LocalRunLemmas.{goes_none}
use Rattle.plan_lanes.proofs.board.Board.follow.Goals as goal

pub returns-then-not-is_open-clause-goes : goal.returns-then-not-is_open-clause-goes
returns-then-not-is_open-clause-goes g c = goes_none c.args.self.now c.args.self.now refl

pub returns-in_err-local_run-clause-goes : goal.returns-in_err-local_run-clause-goes
returns-in_err-local_run-clause-goes g c = goes_none c.args.self.now c.record_reply.new.self c.in_err-local_run.ensures.err

pub returns-clause-asks : goal.returns-clause-asks
returns-clause-asks g c again = followed_awaits c.args.self.now c.record_reply.new.self c.args.edge c.args.reply c.in_ok-local_run.local_run c.in_ok-local_run.ensures.ok again

pub returns-clause-rests : goal.returns-clause-rests
returns-clause-rests g c rests = follows_rests c.args.self.now c.record_reply.new.self c.args.edge c.args.reply c.in_ok-local_run.local_run c.in_ok-local_run.ensures.ok rests
