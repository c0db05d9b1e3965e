use Rattle.std.proofs.Common.{◌≡◌, ◌<◌, ◌+◌, ◌∙◌, ap, arith, length, subst}
use Rattle.std.specs.Prelude.{slice_index}
use Rattle.plan_schedule.specs.BucketContents.{bucket_len}
use Rattle.plan_schedule.specs.BucketRules.{pool_row_for}
use Rattle.plan_schedule.specs.Picking.{IsEmptyRow, NoPoolIn}
use Rattle.plan_schedule.proofs.PickLemmas.{bare_zero, none_then, not_idle}
use Rattle.plan_schedule.proofs.schedule.Schedule.at_take.Goals as goal

pub returns-in-Some-clause-none : goal.returns-in-Some-clause-none
returns-in-Some-clause-none c =
    let b = c.args.self.now in
    let p = c.in-Some.pool in
    let kept = c.requires.schedule.kept in
    let some = c.in-Some.ensures.some in
    let pl : p < length c.args.plan.now.depths.items = subst (λ k. p < k) kept.pool_buckets.sized some.0 in
    none_then c.first_at_take.result (IsEmptyRow b.buckets.bucket (5 + p)) (NoPoolIn b c.args.pool_bucket) c.first_at_take.ensures.none
    (λ bare.
    let zero_is : bucket_len (5 + p) b.buckets.bucket ≡ 0 = bare_zero b.buckets.bucket (5 + p) bare in
    let on : slice_index b.pool_buckets.bucket p ≡ 0 = kept.pools_filed p pl ∙ ap (λ k. pool_row_for k (slice_index b.counts.pool_holders.items p) (slice_index c.args.plan.now.depths.items p)) zero_is in
    absurd (omega (arith, on, some.1, c.row.ensures.row, not_idle c.args.pool_bucket c.requires.taken)))
