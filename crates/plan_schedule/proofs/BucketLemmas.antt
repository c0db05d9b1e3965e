-- The buckets of edges and pools, and that they have room.
use Rattle.std.proofs.Common.{◌≡◌, ◌≢◌, ℕ, suc, ◌+◌, ◌<◌, ◌≤◌, List, [], ◌∷◌, length, refl, sym, ◌∙◌, ap, subst, arith, get_or, set, ◌⊎◌, inl, inr, length-set, get_or-set_other, Bool, true, false, cond, Some, None}
use Rattle.std.specs.Prelude.{◌==◌, if◌then◌else◌, Option, slice_index}
use Rattle.std.proofs.lemmas.Bool.{cases_eq, eq-eqb}
use Rattle.std.proofs.lemmas.Bool.Decides.{eqb_tells}
use Rattle.std.proofs.lemmas.List.{set-get_or}
use Rattle.std.proofs.lemmas.List.Sums.{sum_by-cons}
use Rattle.plan_schedule.specs.BucketContents.{BucketContents, HasRoom, bucket_len}
use Rattle.plan_schedule.proofs.PositionLemmas.{bucket_len_else, bucket_len_less, bucket_len_new}
use Rattle.plan_schedule.specs.declared.phase.Phase.{Phase}
use Rattle.plan_schedule.specs.declared.phase.Phase.TheVariants.{Unbegun, Runnable, AtTake, Waiting, Succeeded, Failed, Abandoned, NotWanted}
use Rattle.plan_schedule.specs.declared.bucket_rules.EdgeBucket.{EdgeBucket}
use Rattle.plan_schedule.specs.declared.bucket_rules.EdgeBucket.TheVariants.{Pending, Startable}
use Rattle.plan_schedule.specs.declared.bucket_rules.PoolBucket.{PoolBucket}
use Rattle.plan_schedule.specs.declared.bucket_rules.PoolBucket.TheVariants.{Idle, Free, Full}
use Rattle.plan_schedule.specs.Counts.{one}
use Rattle.plan_schedule.specs.BucketRules.{AreBuckets, ArePoolBuckets, edge_row, pool_bucket_for, pool_row, pool_row_for, row_for, row_of, unbegun_bucket}

if_low : (b : Bool) (m n : EdgeBucket) (k : ℕ) → edge_row m < k → edge_row n < k → edge_row (if b then m else n) < k
if_low true m n k h g = h
if_low false m n k h g = g

pub unbegun_low : (w : ℕ) (b : Option ℕ) → edge_row (unbegun_bucket w b) < 5
unbegun_low w (Some x) = omega arith
unbegun_low w None = if_low (w == 0) Startable Pending 5 (omega arith) (omega arith)

-- an edge is in one of the first five buckets, or in that of its pool
pub bucket_cases : (phase : Phase) (w : ℕ) (b : Option ℕ) (pool : ℕ) → (row_for phase w b pool < 5) ⊎ (row_for phase w b pool ≡ 5 + pool)
bucket_cases Unbegun w b pool = inl (unbegun_low w b)
bucket_cases (Runnable h) w b pool = inl (omega arith)
bucket_cases (AtTake h) w b pool = inr refl
bucket_cases (Waiting h) w b pool = inl (omega arith)
bucket_cases Succeeded w b pool = inl (omega arith)
bucket_cases Failed w b pool = inl (omega arith)
bucket_cases Abandoned w b pool = inl (omega arith)
bucket_cases NotWanted w b pool = inl (omega arith)

-- an edge whose phase stays moves between the first five buckets, or stays in its bucket
pub stays_or_low : (phase : Phase) (w v : ℕ) (b d : Option ℕ) (pool : ℕ) → (row_for phase w b pool ≡ row_for phase v d pool) ⊎ ((row_for phase w b pool < 5) × (row_for phase v d pool < 5))
stays_or_low Unbegun w v b d pool = inr (unbegun_low w b, unbegun_low v d)
stays_or_low (Runnable h) w v b d pool = inl refl
stays_or_low (AtTake h) w v b d pool = inl refl
stays_or_low (Waiting h) w v b d pool = inl refl
stays_or_low Succeeded w v b d pool = inl refl
stays_or_low Failed w v b d pool = inl refl
stays_or_low Abandoned w v b d pool = inl refl
stays_or_low NotWanted w v b d pool = inl refl

bucket_low : (bucket : PoolBucket) → pool_row bucket < 3
bucket_low Idle = omega arith
bucket_low Free = omega arith
bucket_low Full = omega arith

pool_low : (n h d : ℕ) → pool_row_for n h d < 3
pool_low n h d = bucket_low (pool_bucket_for n h d)

-- the edges in a pool's bucket belong to that pool, so there are no more of them than the pool has
bucket_len_le : (s p : ℕ) (xs ys : List ℕ) → length xs ≡ length ys → ((i : ℕ) → i < length xs → slice_index xs i ≡ s → slice_index ys i ≡ p) → bucket_len s xs ≤ bucket_len p ys
bucket_len_le s p [] ys l f = omega arith
bucket_len_le s p (x ∷ xs) [] l f = absurd (omega (arith, l))
bucket_len_le s p (x ∷ xs) (y ∷ ys) l f =
    let rest : bucket_len s xs ≤ bucket_len p ys = bucket_len_le s p xs ys (omega (arith, l)) (λ i h. f (suc i) (omega (arith, h))) in
    let a : bucket_len s (x ∷ xs) ≡ one (x == s) + bucket_len s xs = sum_by-cons (λ t. cond (t == s) 1 0) x xs in
    let b : bucket_len p (y ∷ ys) ≡ one (y == p) + bucket_len p ys = sum_by-cons (λ t. cond (t == p) 1 0) y ys in
    elim (eqb_tells x s) [
      | inl same ↦
          let c : one (x == s) ≡ one true = ap one same.0 in
          let d : one (y == p) ≡ one true = ap one (eq-eqb y p (f 0 (omega arith) same.1)) in
          omega (arith, rest, a, b, c, d)
      | inr other ↦
          let c : one (x == s) ≡ one false = ap one other.0 in
          omega (arith, rest, a, b, c)
    ]

pub room_low : (f : BucketContents) (n pools e s : ℕ) (pool_of : List ℕ) → AreBuckets n pools pool_of f → e < n → s < 5 → HasRoom f e s
room_low f n pools e s pool_of are here low =
    elim (cases_eq (slice_index f.bucket e) s) [
      | inl same ↦ inl same
      | inr other ↦
          let less : bucket_len s f.bucket + 1 ≤ length f.bucket = bucket_len_less f.bucket e s (omega (arith, here, are.sized)) other in
          let capacity : n ≤ slice_index f.capacity s = are.common s low in
          inr (omega (arith, less, capacity, are.sized))
    ]

pub capacity_pool : (f : BucketContents) (n pools e p : ℕ) (pool_of : List ℕ) → AreBuckets n pools pool_of f → e < n → length pool_of ≡ n → slice_index pool_of e ≡ p → p < pools
    → ((x : ℕ) → x < n → x ≢ e → slice_index f.bucket x ≡ 5 + p → slice_index pool_of x ≡ p) → HasRoom f e (5 + p)
capacity_pool f n pools e p pool_of are here sized mine within theirs =
    elim (cases_eq (slice_index f.bucket e) (5 + p)) [
      | inl same ↦ inl same
      | inr other ↦
          let h : e < length f.bucket = omega (arith, here, are.sized) in
          let new : bucket_len (5 + p) (set f.bucket e (5 + p)) ≡ bucket_len (5 + p) f.bucket + 1 = bucket_len_new f.bucket e (5 + p) h other in
          let same_length : length (set f.bucket e (5 + p)) ≡ length pool_of = length-set f.bucket e (5 + p) ∙ (are.sized ∙ sym sized) in
          let le : bucket_len (5 + p) (set f.bucket e (5 + p)) ≤ bucket_len p pool_of = bucket_len_le (5 + p) p (set f.bucket e (5 + p)) pool_of same_length (λ i lt at. elim (cases_eq i e) [
            | inl q ↦ ap (slice_index pool_of) q ∙ mine
            | inr q ↦ theirs i (omega (arith, lt, same_length, sized)) q (sym (get_or-set_other f.bucket e i (5 + p) 0 q) ∙ at)
          ]) in
          let capacity : bucket_len p pool_of ≤ slice_index f.capacity (5 + p) = are.pool_capacities p within in
          inr (omega (arith, new, le, capacity))
    ]

-- an edge in a pool's bucket belongs to that pool
pub of_pool : (phase : Phase) (w : ℕ) (b : Option ℕ) (pool p : ℕ) → row_for phase w b pool ≡ 5 + p → pool ≡ p
of_pool phase w b pool p e = elim (bucket_cases phase w b pool) [ inl low ↦ absurd (omega (arith, low, e)) | inr at ↦ omega (arith, at, e) ]

pub room_for : (f : BucketContents) (n pools e : ℕ) (pool_of : List ℕ) (phases : List Phase) (waiting : List ℕ) (failed_wait : List (Option ℕ)) → AreBuckets n pools pool_of f → e < n → length pool_of ≡ n → slice_index pool_of e < pools
    → ((x : ℕ) → x < n → x ≢ e → slice_index f.bucket x ≡ row_of pool_of phases waiting failed_wait x) → HasRoom f e (row_of pool_of phases waiting failed_wait e)
room_for f n pools e pool_of phases waiting failed_wait are here sized within filed =
    elim (bucket_cases (get_or phases e Unbegun) (slice_index waiting e) (get_or failed_wait e None) (slice_index pool_of e)) [
      | inl low ↦ room_low f n pools e (row_of pool_of phases waiting failed_wait e) pool_of are here low
      | inr at ↦ subst (HasRoom f e) (sym at) (capacity_pool f n pools e (slice_index pool_of e) pool_of are here sized refl within
          (λ x lt other on. of_pool (get_or phases x Unbegun) (slice_index waiting x) (get_or failed_wait x None) (slice_index pool_of x) (slice_index pool_of e) (sym (filed x lt other) ∙ on)))
    ]

pub pool_capacity_for : (f : BucketContents) (pools p n h d : ℕ) → ArePoolBuckets pools f → p < pools → HasRoom f p (pool_row_for n h d)
pool_capacity_for f pools p n h d are here =
    elim (cases_eq (slice_index f.bucket p) (pool_row_for n h d)) [
      | inl same ↦ inl same
      | inr other ↦
          let less : bucket_len (pool_row_for n h d) f.bucket + 1 ≤ length f.bucket = bucket_len_less f.bucket p (pool_row_for n h d) (omega (arith, here, are.sized)) other in
          let capacity : pools ≤ slice_index f.capacity (pool_row_for n h d) = are.capacities (pool_row_for n h d) (pool_low n h d) in
          inr (omega (arith, less, capacity, are.sized))
    ]

-- the number of edges in the bucket of a pool, after an edge of another pool moved
pub pool_apart : (bucket : List ℕ) (e p q : ℕ) (a b : Phase) (w v : ℕ) (c d : Option ℕ) → e < length bucket → slice_index bucket e ≡ row_for a w c p → p ≢ q
    → bucket_len (5 + q) (set bucket e (row_for b v d p)) ≡ bucket_len (5 + q) bucket
pool_apart bucket e p q a b w v c d here on apart =
    bucket_len_else bucket e (row_for b v d p) (5 + q) here (λ at. apart (of_pool a w c p q (sym on ∙ at))) (λ at. apart (of_pool b v d p q at))

-- the number of edges in the bucket of a pool, after an edge moved and kept its phase
pub pool_same : (bucket : List ℕ) (e p q : ℕ) (a : Phase) (w v : ℕ) (c d : Option ℕ) → e < length bucket → slice_index bucket e ≡ row_for a w c p
    → bucket_len (5 + q) (set bucket e (row_for a v d p)) ≡ bucket_len (5 + q) bucket
pool_same bucket e p q a w v c d here on =
    elim (stays_or_low a w v c d p) [
      | inl same ↦ ap (λ s. bucket_len (5 + q) (set bucket e s)) (sym same ∙ sym on) ∙ ap (bucket_len (5 + q)) (set-get_or bucket e 0)
      | inr low ↦ bucket_len_else bucket e (row_for a v d p) (5 + q) here (λ at. let from : row_for a w c p ≡ 5 + q = sym on ∙ at in omega (arith, from, low.0)) (λ at. omega (arith, at, low.1))
    ]

-- the row of an edge is a u32 if the number of its pool is
pub row_small : (phase : Phase) (w : ℕ) (b : Option ℕ) (pool n : ℕ) → pool + 5 < n → row_for phase w b pool < n
row_small phase w b pool n h = elim (bucket_cases phase w b pool) [ inl low ↦ omega (arith, low, h) | inr at ↦ omega (arith, at, h) ]
