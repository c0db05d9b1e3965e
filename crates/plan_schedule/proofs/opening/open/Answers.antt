use Rattle.std.proofs.Common.{◌≡◌, ◌<◌, ◌∙◌, ℕ, List, Option, None, false, ap, get_or, length, map, refl, subst, sym}
use Rattle.std.specs.Prelude.{count_by, replicate, slice_index}
use Rattle.plan_schedule.specs.declared.phase.Phase.{Phase}
use Rattle.plan_schedule.specs.Phases.{is_open}
use Rattle.plan_schedule.specs.BucketRules.{AreBuckets, ArePoolBuckets, edge_row}
use Rattle.plan_schedule.specs.Scheduling.{edges_of}
use Rattle.plan_schedule.specs.Opening.{opening_bucket}
use Rattle.plan_schedule.proofs.OpenLemmas.{opened}
use Rattle.plan_schedule.proofs.opening.open.Goals as goal

abbrev nobody : Option ℕ
nobody = None

pub returns-clause-schedule : goal.returns-clause-schedule
returns-clause-schedule c =
    let plan = c.args.plan.now in
    let is = c.requires.plan in
    let wanted = c.args.wanted.now in
    let f = c.in_ok-buckets.buckets in
    let g = c.in_ok-pool_buckets.pool_buckets in
    let pools : c.len-pools.result ≡ length plan.depths.items = c.len-pools.ensures ∙ plan.depths.ok.0 in
    let edges : length wanted ≡ edges_of plan = c.requires.wanted in
    let pool_of : c.deref-2.result.now ≡ plan.pools.items = c.deref-2.ensures.value in
    let n : length c.deref-2.result.now ≡ edges_of plan = ap (λ (l : List ℕ). length l) pool_of ∙ is.pools_sized in
    let buckets : AreBuckets (edges_of plan) (length plan.depths.items) plan.pools.items f
    = subst (λ k. AreBuckets k (length plan.depths.items) plan.pools.items f) n (subst (λ k. AreBuckets (length c.deref-2.result.now) k plan.pools.items f) pools
    (subst (λ (l : List ℕ). AreBuckets (length c.deref-2.result.now) c.len-pools.result l f) pool_of c.in_ok-buckets.ensures.buckets)) in
    opened plan _ wanted is c.requires.wanted
    c.in_ok-phases.ensures
    (c.in_ok-waiting.ensures ∙ ap (λ (l : List (List ℕ)). map length l) c.deref.ensures.value)
    (c.in_ok-failed_wait.ensures ∙ ap (λ k. replicate k nobody) edges)
    (c.in_ok-pool_holders.ensures ∙ ap (λ k. replicate {A = ℕ} k 0) pools)
    refl refl
    (c.open_count-open_edges.ensures ∙ ap (λ (l : List Phase). count_by is_open l) c.deref-4.ensures.value)
    buckets
    (λ e h. c.in_ok-buckets.ensures.filed e (subst (λ k. e < k) (sym n) h) ∙ ap (λ (l : List ℕ). edge_row (opening_bucket (get_or wanted e false) (slice_index l e))) c.deref-3.ensures.value)
    (c.in_ok-pool_buckets.ensures.bucket ∙ ap (λ k. replicate {A = ℕ} k 0) pools)
    (subst (λ k. ArePoolBuckets k g) pools c.in_ok-pool_buckets.ensures.buckets)
