-- The invariant is preserved.
use Rattle.std.proofs.Common.{◌≡◌, ◌≢◌, ℕ, ◌+◌, ◌<◌, List, length, refl, sym, ◌∙◌, ap, subst, arith, get_or, set, inl, inr, length-set, get_or-set_same, get_or-set_other, None}
use Rattle.std.specs.Prelude.{Option, slice_index}
use Rattle.std.proofs.lemmas.Bool.{cases_eq}
use Rattle.plan_schedule.specs.BucketContents.{BucketContents, bucket_len}
use Rattle.plan_schedule.specs.declared.phase.Phase.{Phase}
use Rattle.plan_schedule.specs.declared.phase.Phase.TheVariants.{Unbegun}
use Rattle.plan_schedule.specs.declared.plan.Plan.{Plan}
use Rattle.plan_schedule.specs.declared.schedule.Schedule.{Schedule}
use Rattle.plan_schedule.specs.Counts.{AreCounts}
use Rattle.plan_schedule.specs.BucketRules.{AreBuckets, ArePoolBuckets, row_of, pool_row_for, row_for}
use Rattle.plan_schedule.specs.Scheduling.{IsKept, IsPlan, edges_of}
use Rattle.plan_schedule.proofs.BucketLemmas.{pool_apart, pool_same}

-- the bucket of each edge after one moved
abbrev pub moved : BucketContents → ℕ → ℕ → BucketContents
moved f e s = record f { bucket = set f.bucket e s }

pub its_same : (a b : List ℕ) (x y : List Phase) (v w : List ℕ) (c d : List (Option ℕ)) (e : ℕ) → a ≡ b → x ≡ y → v ≡ w → c ≡ d → row_of a x v c e ≡ row_of b y w d e
its_same a b x y v w c d e p q r s =
    ap (λ (z : List ℕ). row_of z x v c e) p ∙ (ap (λ (z : List Phase). row_of b z v c e) q ∙ (ap (λ (z : List ℕ). row_of b y z c e) r ∙ ap (λ (z : List (Option ℕ)). row_of b y w z e) s))

are_buckets : (n pools : ℕ) (pool_of : List ℕ) (f : BucketContents) (e s : ℕ) → AreBuckets n pools pool_of f → AreBuckets n pools pool_of (moved f e s)
are_buckets n pools pool_of f e s are = record { sized = length-set f.bucket e s ∙ are.sized; many = are.many; common = are.common; pool_capacities = are.pool_capacities }

are_pool_buckets : (pools : ℕ) (f : BucketContents) (e s : ℕ) → ArePoolBuckets pools f → ArePoolBuckets pools (moved f e s)
are_pool_buckets pools f e s are = record { sized = length-set f.bucket e s ∙ are.sized; many = are.many; capacities = are.capacities }

filed_after : (plan : Plan) (b b' : Schedule) (e : ℕ) → IsKept plan b → e < edges_of plan
    → b'.buckets ≡ moved b.buckets e (row_of plan.pools.items b'.phases.items b'.waiting.items b'.failed_wait.items e)
    → ((x : ℕ) → x ≢ e → row_of plan.pools.items b'.phases.items b'.waiting.items b'.failed_wait.items x ≡ row_of plan.pools.items b.phases.items b.waiting.items b.failed_wait.items x)
    → (x : ℕ) → x < edges_of plan → slice_index b'.buckets.bucket x ≡ row_of plan.pools.items b'.phases.items b'.waiting.items b'.failed_wait.items x
filed_after plan b b' e kept here is same x h =
    let to = row_of plan.pools.items b'.phases.items b'.waiting.items b'.failed_wait.items e in
    let el : e < length b.buckets.bucket = omega (arith, here, kept.buckets.sized) in
    let read : slice_index b'.buckets.bucket x ≡ slice_index (set b.buckets.bucket e to) x = ap (λ (f : BucketContents). slice_index f.bucket x) is in
    read ∙ elim (cases_eq x e) [
      | inl at ↦ ap (slice_index (set b.buckets.bucket e to)) at ∙ (get_or-set_same b.buckets.bucket e to 0 el ∙ ap (row_of plan.pools.items b'.phases.items b'.waiting.items b'.failed_wait.items) (sym at))
      | inr other ↦ get_or-set_other b.buckets.bucket e x to 0 other ∙ (kept.filed x h ∙ sym (same x other))
    ]

-- an edge changed its phase
pub kept_entered : (plan : Plan) (b b' : Schedule) (e : ℕ) (next : Phase) → IsPlan plan → IsKept plan b → e < edges_of plan
    → b'.phases.items ≡ set b.phases.items e next → b'.waiting.items ≡ b.waiting.items → b'.failed_wait.items ≡ b.failed_wait.items
    → AreCounts plan.pools.items b'.phases.items b'.counts.pool_holders.items b'.counts.holders b'.counts.failures b'.counts.open_edges
    → length b'.counts.pool_holders.items ≡ length b.counts.pool_holders.items
    → ((q : ℕ) → q ≢ slice_index plan.pools.items e → slice_index b'.counts.pool_holders.items q ≡ slice_index b.counts.pool_holders.items q)
    → b'.buckets ≡ moved b.buckets e (row_of plan.pools.items b'.phases.items b'.waiting.items b'.failed_wait.items e)
    → b'.pool_buckets ≡ moved b.pool_buckets (slice_index plan.pools.items e) (pool_row_for (bucket_len (5 + slice_index plan.pools.items e) b'.buckets.bucket)
    (slice_index b'.counts.pool_holders.items (slice_index plan.pools.items e)) (slice_index plan.depths.items (slice_index plan.pools.items e)))
    → IsKept plan b'
kept_entered plan b b' e next is kept here ep ew eb counts sized others es eq =
    let p = slice_index plan.pools.items e in
    let pl : p < length b.pool_buckets.bucket = subst (λ k. p < k) (sym kept.pool_buckets.sized) (is.in_pools e here) in
    let el : e < length b.buckets.bucket = omega (arith, here, kept.buckets.sized) in
    let to = row_of plan.pools.items b'.phases.items b'.waiting.items b'.failed_wait.items e in
    let at = pool_row_for (bucket_len (5 + p) b'.buckets.bucket) (slice_index b'.counts.pool_holders.items p) (slice_index plan.depths.items p) in
    let same : (x : ℕ) → x ≢ e → row_of plan.pools.items b'.phases.items b'.waiting.items b'.failed_wait.items x ≡ row_of plan.pools.items b.phases.items b.waiting.items b.failed_wait.items x
    = λ x other. its_same plan.pools.items plan.pools.items b'.phases.items (set b.phases.items e next) b'.waiting.items b.waiting.items b'.failed_wait.items b.failed_wait.items x refl ep ew eb
    ∙ ap (λ ph. row_for ph (slice_index b.waiting.items x) (get_or b.failed_wait.items x None) (slice_index plan.pools.items x)) (get_or-set_other b.phases.items e x next Unbegun other) in
    record {
      phases_sized = ap length ep ∙ (length-set b.phases.items e next ∙ kept.phases_sized);
      waiting_sized = ap length ew ∙ kept.waiting_sized;
      failed_wait_sized = ap length eb ∙ kept.failed_wait_sized;
      holders_sized = sized ∙ kept.holders_sized;
      counts = counts;
      buckets = subst (AreBuckets (edges_of plan) (length plan.depths.items) plan.pools.items) (sym es) (are_buckets (edges_of plan) (length plan.depths.items) plan.pools.items b.buckets e to kept.buckets);
      filed = filed_after plan b b' e kept here es same;
      pool_buckets = subst (ArePoolBuckets (length plan.depths.items)) (sym eq) (are_pool_buckets (length plan.depths.items) b.pool_buckets p at kept.pool_buckets);
      pools_filed = λ q h. ap (λ (f : BucketContents). slice_index f.bucket q) eq ∙ elim (cases_eq q p) [
        | inl mine ↦ ap (slice_index (set b.pool_buckets.bucket p at)) mine ∙ (get_or-set_same b.pool_buckets.bucket p at 0 pl
            ∙ ap (λ k. pool_row_for (bucket_len (5 + k) b'.buckets.bucket) (slice_index b'.counts.pool_holders.items k) (slice_index plan.depths.items k)) (sym mine))
        | inr other ↦
            let stay : bucket_len (5 + q) b'.buckets.bucket ≡ bucket_len (5 + q) b.buckets.bucket
            = ap (λ (f : BucketContents). bucket_len (5 + q) f.bucket) es
            ∙ pool_apart b.buckets.bucket e p q (get_or b.phases.items e Unbegun) (get_or b'.phases.items e Unbegun) (slice_index b.waiting.items e) (slice_index b'.waiting.items e)
            (get_or b.failed_wait.items e None) (get_or b'.failed_wait.items e None) el (kept.filed e here) (λ r. other (sym r)) in
            get_or-set_other b.pool_buckets.bucket p q at 0 other ∙ (kept.pools_filed q h
            ∙ (ap (λ k. pool_row_for k (slice_index b.counts.pool_holders.items q) (slice_index plan.depths.items q)) (sym stay)
            ∙ ap (λ k. pool_row_for (bucket_len (5 + q) b'.buckets.bucket) k (slice_index plan.depths.items q)) (sym (others q other))))
      ];
    }

-- a wait of an edge was recorded; the phase of the edge stays
pub kept_noted : (plan : Plan) (b b' : Schedule) (e : ℕ) → IsPlan plan → IsKept plan b → e < edges_of plan
    → b'.phases ≡ b.phases → b'.counts ≡ b.counts → b'.pool_buckets ≡ b.pool_buckets
    → length b'.waiting.items ≡ length b.waiting.items → length b'.failed_wait.items ≡ length b.failed_wait.items
    → ((x : ℕ) → x ≢ e → slice_index b'.waiting.items x ≡ slice_index b.waiting.items x)
    → ((x : ℕ) → x ≢ e → get_or b'.failed_wait.items x None ≡ get_or b.failed_wait.items x None)
    → b'.buckets ≡ moved b.buckets e (row_of plan.pools.items b'.phases.items b'.waiting.items b'.failed_wait.items e)
    → IsKept plan b'
kept_noted plan b b' e is kept here ep ec eq lw lb ow ob es =
    let p = slice_index plan.pools.items e in
    let el : e < length b.buckets.bucket = omega (arith, here, kept.buckets.sized) in
    let to = row_of plan.pools.items b'.phases.items b'.waiting.items b'.failed_wait.items e in
    let same_phase : (x : ℕ) → get_or b'.phases.items x Unbegun ≡ get_or b.phases.items x Unbegun = λ x. ap (λ v. get_or v.items x Unbegun) ep in
    let same : (x : ℕ) → x ≢ e → row_of plan.pools.items b'.phases.items b'.waiting.items b'.failed_wait.items x ≡ row_of plan.pools.items b.phases.items b.waiting.items b.failed_wait.items x
    = λ x other. ap (λ ph. row_for ph (slice_index b'.waiting.items x) (get_or b'.failed_wait.items x None) (slice_index plan.pools.items x)) (same_phase x)
    ∙ (ap (λ w. row_for (get_or b.phases.items x Unbegun) w (get_or b'.failed_wait.items x None) (slice_index plan.pools.items x)) (ow x other)
    ∙ ap (λ v. row_for (get_or b.phases.items x Unbegun) (slice_index b.waiting.items x) v (slice_index plan.pools.items x)) (ob x other)) in
    let counts : AreCounts plan.pools.items b.phases.items b'.counts.pool_holders.items b'.counts.holders b'.counts.failures b'.counts.open_edges
    = subst (λ c. AreCounts plan.pools.items b.phases.items c.pool_holders.items c.holders c.failures c.open_edges) (sym ec) kept.counts in
    record {
      phases_sized = ap (λ v. length v.items) ep ∙ kept.phases_sized;
      waiting_sized = lw ∙ kept.waiting_sized;
      failed_wait_sized = lb ∙ kept.failed_wait_sized;
      holders_sized = ap (λ c. length c.pool_holders.items) ec ∙ kept.holders_sized;
      counts = subst (λ v. AreCounts plan.pools.items v.items b'.counts.pool_holders.items b'.counts.holders b'.counts.failures b'.counts.open_edges) (sym ep) counts;
      buckets = subst (AreBuckets (edges_of plan) (length plan.depths.items) plan.pools.items) (sym es) (are_buckets (edges_of plan) (length plan.depths.items) plan.pools.items b.buckets e to kept.buckets);
      filed = filed_after plan b b' e kept here es same;
      pool_buckets = subst (ArePoolBuckets (length plan.depths.items)) (sym eq) kept.pool_buckets;
      pools_filed = λ q h.
          let stay : bucket_len (5 + q) b'.buckets.bucket ≡ bucket_len (5 + q) b.buckets.bucket
          = ap (λ (f : BucketContents). bucket_len (5 + q) f.bucket) es
          ∙ (ap (λ ph. bucket_len (5 + q) (set b.buckets.bucket e (row_for ph (slice_index b'.waiting.items e) (get_or b'.failed_wait.items e None) p))) (same_phase e)
          ∙ pool_same b.buckets.bucket e p q (get_or b.phases.items e Unbegun) (slice_index b.waiting.items e) (slice_index b'.waiting.items e)
          (get_or b.failed_wait.items e None) (get_or b'.failed_wait.items e None) el (kept.filed e here)) in
          ap (λ (f : BucketContents). slice_index f.bucket q) eq ∙ (kept.pools_filed q h
          ∙ (ap (λ k. pool_row_for k (slice_index b.counts.pool_holders.items q) (slice_index plan.depths.items q)) (sym stay)
          ∙ ap (λ c. pool_row_for (bucket_len (5 + q) b'.buckets.bucket) (slice_index c.pool_holders.items q) (slice_index plan.depths.items q)) (sym ec)));
    }

pub pool_at : (f g : BucketContents) (h k d m : List ℕ) (p q : ℕ) → h ≡ k → d ≡ m → p ≡ q
    → moved f p (pool_row_for (bucket_len (5 + p) g.bucket) (slice_index h p) (slice_index d p)) ≡ moved f q (pool_row_for (bucket_len (5 + q) g.bucket) (slice_index k q) (slice_index m q))
pool_at f g h k d m p q eh ed ep =
    ap (λ (z : List ℕ). moved f p (pool_row_for (bucket_len (5 + p) g.bucket) (slice_index z p) (slice_index d p))) eh
    ∙ (ap (λ (z : List ℕ). moved f p (pool_row_for (bucket_len (5 + p) g.bucket) (slice_index k p) (slice_index z p))) ed
    ∙ ap (λ z. moved f z (pool_row_for (bucket_len (5 + z) g.bucket) (slice_index k z) (slice_index m z))) ep)
