use Rattle.std.proofs.Common.{◌∙◌, ap, length, subst, sym}
use Rattle.plan_schedule.specs.BucketContents.{HasRoom}
use Rattle.plan_schedule.specs.BucketRules.{edge_row}
use Rattle.plan_schedule.proofs.BucketLemmas.{room_for}
use Rattle.plan_schedule.proofs.bucket_rules.move_edge.Goals as goal

pub put-requires-clause-capacity : goal.put-requires-clause-capacity
put-requires-clause-capacity c =
    subst (HasRoom c.args.buckets.now c.args.edge) (sym (c.row-row.ensures ∙ ap edge_row c.bucket_for-bucket.ensures))
    (room_for c.args.buckets.now (length c.args.phases.now) c.args.pool_count c.args.edge c.args.pools.now c.args.phases.now c.args.waiting.now c.args.failed_wait.now c.requires.buckets c.requires.here c.requires.pools c.requires.pool c.requires.filed)
