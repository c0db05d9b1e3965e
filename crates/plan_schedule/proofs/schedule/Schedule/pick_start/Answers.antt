use Rattle.std.proofs.Common.{inr}
use Rattle.plan_schedule.proofs.PickLemmas.{no_start}
use Rattle.plan_schedule.proofs.schedule.Schedule.pick_start.Goals as goal

pub returns-in-None-edge_in_bucket-clause-none : goal.returns-in-None-edge_in_bucket-clause-none
returns-in-None-edge_in_bucket-clause-none c =
    inr (inr (λ jobs e on. no_start c.args.plan.now c.args.self.now jobs c.args.keep c.requires.schedule c.in-None-edge_in_bucket.ensures.none e on))
