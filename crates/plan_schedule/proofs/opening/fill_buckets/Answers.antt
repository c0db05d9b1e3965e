use Rattle.std.proofs.Common.{◌<◌, ◌∙◌, ap, get_or, false, length, subst, sym}
use Rattle.std.specs.Prelude.{slice_index}
use Rattle.plan_schedule.proofs.BucketLemmas.{room_low}
use Rattle.plan_schedule.specs.BucketRules.{edge_row}
use Rattle.plan_schedule.proofs.OpenLemmas.{bucket_low}
use Rattle.plan_schedule.proofs.opening.fill_buckets.Goals as goal

pub put-requires-clause-capacity : goal.put-requires-clause-capacity
put-requires-clause-capacity c =
    let e = c.loop-edge.edge in
    let lt : e < length c.args.pools.now = c.loop-edge-test.true in
    let low : c.row-row.result < 5 = subst (λ s. s < 5) (sym (c.row-row.ensures ∙ ap edge_row c.opening_bucket.ensures)) (bucket_low (get_or c.args.wanted.now e false) (slice_index c.args.waiting.now e)) in
    room_low c.loop-edge.buckets (length c.args.pools.now) c.args.pool_count e c.row-row.result c.args.pools.now c.loop-edge.invariant.0 lt low
