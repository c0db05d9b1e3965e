use Rattle.std.proofs.Common.{◌≡◌, ◌≢◌, ◌<◌, ◌≤◌, ◌+◌, ◌∙◌, ◌⊎◌, inl, inr, ℕ, ap, arith, get_or, get_or-set_other, get_or-set_same, length, length-set, refl, set, subst, sym, take}
use Rattle.std.specs.Prelude.{◌==◌, slice_index}
use Rattle.std.proofs.lemmas.Bool.{cases_eq}
use Rattle.std.proofs.lemmas.List.{get_or_default}
use Rattle.std.proofs.lemmas.List.Sums.{count_by-le-length}
use Rattle.plan_schedule.specs.BucketContents.{bucket_len}
use Rattle.plan_schedule.proofs.WaitLemmas.{bucket_len_next, bucket_len_past, bucket_len_take}
use Rattle.plan_schedule.proofs.opening.capacities_of.Goals as goal

pub overflow_add-index_mut : goal.overflow_add-index_mut
overflow_add-index_mut c =
    let pools = c.args.pools.now in
    let capacities = c.loop-pool.capacities.items in
    let i = c.loop-pool.pool-index in
    let p = slice_index pools i in
    let inv = c.loop-pool.invariant in
    let lt : i < length pools = c.loop-pool-test.true in
    let pl : p < c.args.pool_count = c.requires.inside i 0 lt in
    let at : 5 + p < length capacities = omega (arith, pl, inv.0) in
    let read : c.index_mut.result.now ≡ slice_index capacities (5 + p) = c.index_mut.ensures.value ∙ get_or_default capacities (5 + p) c.index_mut.result.now 0 at in
    let is : slice_index capacities (5 + p) ≡ bucket_len p (take i pools) = inv.2 p pl in
    let next : bucket_len p (take (i + 1) pools) ≡ bucket_len p (take i pools) + 1 = bucket_len_next p pools i lt refl in
    let part : bucket_len p (take (i + 1) pools) ≤ bucket_len p pools = bucket_len_take p pools (i + 1) in
    let all : bucket_len p pools ≤ length pools = count_by-le-length (λ v. v == p) pools in
    omega (arith, read, is, next, part, all, c.requires.few)

pub loop-pool-preserved : goal.loop-pool-preserved
loop-pool-preserved c =
    let pools = c.args.pools.now in
    let capacities = c.loop-pool.capacities.items in
    let i = c.loop-pool.pool-index in
    let p = slice_index pools i in
    let v = c.index_mut.result.now + 1 in
    let inv = c.loop-pool.invariant in
    let lt : i < length pools = c.loop-pool-test.true in
    let pl : p < c.args.pool_count = c.requires.inside i 0 lt in
    let at : 5 + p < length capacities = omega (arith, pl, inv.0) in
    let read : c.index_mut.result.now ≡ slice_index capacities (5 + p) = c.index_mut.ensures.value ∙ get_or_default capacities (5 + p) c.index_mut.result.now 0 at in (
      length-set capacities (5 + p) v ∙ inv.0,
      λ s h. get_or-set_other capacities (5 + p) s v 0 (λ q. omega (arith, q, h)) ∙ inv.1 s h,
      λ q h. elim (cases_eq q p) [
        | inl same ↦
            let new : slice_index (set capacities (5 + p) v) (5 + q) ≡ v = ap (λ k. slice_index (set capacities (5 + p) v) (5 + k)) same ∙ get_or-set_same capacities (5 + p) v 0 at in
            let is : slice_index capacities (5 + p) ≡ bucket_len p (take i pools) = inv.2 p pl in
            let next : bucket_len q (take (i + 1) pools) ≡ bucket_len q (take i pools) + 1 = bucket_len_next q pools i lt (sym same) in
            let as_q : bucket_len q (take i pools) ≡ bucket_len p (take i pools) = ap (λ k. bucket_len k (take i pools)) same in
            omega (arith, new, is, next, as_q, read)
        | inr other ↦
            get_or-set_other capacities (5 + p) (5 + q) v 0 (λ r. other (omega (arith, r))) ∙ (inv.2 q h ∙ sym (bucket_len_past q pools i lt (λ r. other (sym r))))
      ],
    )
