-- An edge asks a question or receives a reply.
use Rattle.std.proofs.Common.{◌≡◌, ◌≢◌, ℕ, ◌+◌, ◌<◌, List, length, sym, ◌∙◌, ap, subst, arith, get_or, get_or-set_same, set, None, true, false}
use Rattle.std.specs.Prelude.{Option, slice_index}
use Rattle.std.proofs.lemmas.List.{set-get_or}
use Rattle.plan_schedule.specs.BucketContents.{BucketContents, bucket_len}
use Rattle.plan_schedule.specs.declared.phase.Phase.{Phase}
use Rattle.plan_schedule.specs.declared.phase.Phase.TheVariants.{Unbegun, Runnable, AtTake, Waiting, Succeeded, Failed, Abandoned, NotWanted}
use Rattle.plan_schedule.specs.declared.plan.Plan.{Plan}
use Rattle.plan_schedule.specs.declared.bucket_rules.Counts.{Counts}
use Rattle.plan_schedule.specs.declared.schedule.Schedule.{Schedule}
use Rattle.plan_schedule.specs.Counts.{AreCounts, one}
use Rattle.plan_schedule.specs.Phases.{AreAlike, has_failed, holds, is_at_take, is_open, phase_at}
use Rattle.plan_schedule.specs.BucketRules.{edge_row, pool_row_for, row_for, row_of, unbegun_bucket}
use Rattle.plan_schedule.specs.Scheduling.{IsKept, IsPlan, edges_of}
use Rattle.plan_schedule.proofs.CountLemmas.{counts_after}
use Rattle.plan_schedule.proofs.BucketLemmas.{unbegun_low}
use Rattle.plan_schedule.proofs.ScheduleLemmas.{kept_entered, moved}
use Rattle.plan_schedule.proofs.PositionLemmas.{bucket_len_else}

-- an edge that isn't at Take is in no bucket of a pool
off_pools : (phase : Phase) (w : ℕ) (b : Option ℕ) (pool q : ℕ) → is_at_take phase ≡ false → row_for phase w b pool ≢ 5 + q
off_pools Unbegun w b pool q h at = let low : edge_row (unbegun_bucket w b) < 5 = unbegun_low w b in absurd (omega (arith, low, at))
off_pools (Runnable x) w b pool q h at = absurd (omega (arith, at))
off_pools (AtTake x) w b pool q h at = absurd (let clash : true ≡ false = h in cc)
off_pools (Waiting x) w b pool q h at = absurd (omega (arith, at))
off_pools Succeeded w b pool q h at = absurd (omega (arith, at))
off_pools Failed w b pool q h at = absurd (omega (arith, at))
off_pools Abandoned w b pool q h at = absurd (omega (arith, at))
off_pools NotWanted w b pool q h at = absurd (omega (arith, at))

-- all counts stay the same
counts_alike : (pools : List ℕ) (phases : List Phase) (c : Counts) (e : ℕ) (next : Phase)
    → AreCounts pools phases c.pool_holders.items c.holders c.failures c.open_edges → e < length phases → length pools ≡ length phases → slice_index pools e < length c.pool_holders.items
    → AreAlike (phase_at phases e) next → AreCounts pools (set phases e next) c.pool_holders.items c.holders c.failures c.open_edges
counts_alike pools phases c e next are here sized pool alike =
    let q = slice_index pools e in
    let held : one (holds (phase_at phases e)) ≡ one (holds next) = ap one alike.0 in
    let failed : one (has_failed (phase_at phases e)) ≡ one (has_failed next) = ap one alike.1 in
    let open_too : one (is_open (phase_at phases e)) ≡ one (is_open next) = ap one alike.2 in
    subst (λ (l : List ℕ). AreCounts pools (set phases e next) l c.holders c.failures c.open_edges) (set-get_or c.pool_holders.items q 0)
    (counts_after pools phases c.pool_holders.items c.holders c.failures c.open_edges e next (slice_index c.pool_holders.items q) c.holders c.failures c.open_edges
    are here sized pool (omega (arith, held)) (omega (arith, held)) (omega (arith, failed)) (omega (arith, open_too)))

moved_same : (f : BucketContents) (p s : ℕ) → slice_index f.bucket p ≡ s → f ≡ moved f p s
moved_same f p s is = sym (ap (λ (l : List ℕ). record f { bucket = l }) (ap (set f.bucket p) (sym is) ∙ set-get_or f.bucket p 0))

-- an edge changed to a phase that is counted in the same way
pub kept_uncounted : (plan : Plan) (b b' : Schedule) (e : ℕ) (next : Phase) → IsPlan plan → IsKept plan b → e < edges_of plan → AreAlike (phase_at b.phases.items e) next
    → b'.phases.items ≡ set b.phases.items e next → b'.waiting.items ≡ b.waiting.items → b'.failed_wait.items ≡ b.failed_wait.items → b'.counts ≡ b.counts → b'.pool_buckets ≡ b.pool_buckets
    → b'.buckets ≡ moved b.buckets e (row_of plan.pools.items b'.phases.items b'.waiting.items b'.failed_wait.items e)
    → IsKept plan b'
kept_uncounted plan b b' e next is kept here alike ep ew eb ec eq es =
    let p = slice_index plan.pools.items e in
    let h : e < length b.phases.items = omega (arith, here, kept.phases_sized) in
    let el : e < length b.buckets.bucket = omega (arith, here, kept.buckets.sized) in
    let sized : length plan.pools.items ≡ length b.phases.items = is.pools_sized ∙ sym kept.phases_sized in
    let within : p < length b.counts.pool_holders.items = subst (λ k. p < k) (sym kept.holders_sized) (is.in_pools e here) in
    let to = row_of plan.pools.items b'.phases.items b'.waiting.items b'.failed_wait.items e in
    let now : phase_at b'.phases.items e ≡ next = ap (λ (l : List Phase). phase_at l e) ep ∙ get_or-set_same b.phases.items e next Unbegun h in
    let off : is_at_take (phase_at b'.phases.items e) ≡ false = ap is_at_take now ∙ alike.4 in
    let counted : AreCounts plan.pools.items (set b.phases.items e next) b.counts.pool_holders.items b.counts.holders b.counts.failures b.counts.open_edges
    = counts_alike plan.pools.items b.phases.items b.counts e next kept.counts h sized within alike in
    let counts : AreCounts plan.pools.items b'.phases.items b'.counts.pool_holders.items b'.counts.holders b'.counts.failures b'.counts.open_edges
    = subst (λ (c : Counts). AreCounts plan.pools.items b'.phases.items c.pool_holders.items c.holders c.failures c.open_edges) (sym ec)
    (subst (λ (l : List Phase). AreCounts plan.pools.items l b.counts.pool_holders.items b.counts.holders b.counts.failures b.counts.open_edges) (sym ep) counted) in
    let stay : bucket_len (5 + p) b'.buckets.bucket ≡ bucket_len (5 + p) b.buckets.bucket
    = ap (λ (f : BucketContents). bucket_len (5 + p) f.bucket) es
    ∙ bucket_len_else b.buckets.bucket e to (5 + p) el
    (λ at. off_pools (phase_at b.phases.items e) (slice_index b.waiting.items e) (get_or b.failed_wait.items e None) p p alike.3 (sym (kept.filed e here) ∙ at))
    (λ at. off_pools (phase_at b'.phases.items e) (slice_index b'.waiting.items e) (get_or b'.failed_wait.items e None) p p off at) in
    let pooled : slice_index b.pool_buckets.bucket p ≡ pool_row_for (bucket_len (5 + p) b'.buckets.bucket) (slice_index b'.counts.pool_holders.items p) (slice_index plan.depths.items p)
    = kept.pools_filed p (is.in_pools e here)
    ∙ (ap (λ k. pool_row_for k (slice_index b.counts.pool_holders.items p) (slice_index plan.depths.items p)) (sym stay)
    ∙ ap (λ (c : Counts). pool_row_for (bucket_len (5 + p) b'.buckets.bucket) (slice_index c.pool_holders.items p) (slice_index plan.depths.items p)) (sym ec)) in
    kept_entered plan b b' e next is kept here ep ew eb counts (ap (λ (c : Counts). length c.pool_holders.items) ec)
    (λ q other. ap (λ (c : Counts). slice_index c.pool_holders.items q) ec) es (eq ∙ moved_same b.pool_buckets p _ pooled)
