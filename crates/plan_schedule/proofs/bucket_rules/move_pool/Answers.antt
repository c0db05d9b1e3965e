use Rattle.std.proofs.Common.{◌∙◌, ap, length, subst, sym}
use Rattle.std.specs.Prelude.{slice_index}
use Rattle.plan_schedule.specs.BucketContents.{HasRoom}
use Rattle.plan_schedule.specs.BucketRules.{pool_row}
use Rattle.plan_schedule.proofs.BucketLemmas.{pool_capacity_for}
use Rattle.plan_schedule.proofs.bucket_rules.move_pool.Goals as goal

pub put-requires-clause-capacity : goal.put-requires-clause-capacity
put-requires-clause-capacity c =
    subst (HasRoom c.args.pool_buckets.now c.args.pool) (sym (c.row-row.ensures.row ∙ ap pool_row c.pool_bucket_for-bucket.ensures))
    (pool_capacity_for c.args.pool_buckets.now (length c.args.depths.now) c.args.pool c.len-at_take.result (slice_index c.args.holders.now c.args.pool) (slice_index c.args.depths.now c.args.pool) c.requires.pool_buckets c.requires.here)
