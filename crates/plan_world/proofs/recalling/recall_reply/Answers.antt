use Rattle.plan_world.proofs.AnswerLemmas.{recalled_as}
use Rattle.plan_world.proofs.recalling.recall_reply.Goals as goal

pub returns-in_ok-recorded_of-in-Some-clause-recalled :
    goal.returns-in_ok-recorded_of-in-Some-clause-recalled
returns-in_ok-recorded_of-in-Some-clause-recalled c =
    recalled_as c.args.found c.in-Some.entry c.in_ok-recorded_of-in-Some.field-0 c.replied_entry.result c.in-Some.is c.in_ok-recorded_of-in-Some.ensures.said c.replied_entry.ensures
