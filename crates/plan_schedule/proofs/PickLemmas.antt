-- An edge in a bucket can do what the bucket is for, and an edge that can do something is in the bucket for it.
use Rattle.std.proofs.Common.{◌≡◌, ◌≢◌, ℕ, zero, suc, ◌+◌, ◌<◌, List, [], ◌∷◌, length, refl, sym, ◌∙◌, ap, subst, arith, get_or, ◌⊎◌, inl, inr, Bool, true, false, cond, Some, None}
use Rattle.std.specs.Prelude.{◌==◌, ◌||◌, if◌then◌else◌, nat_lt, not, All, Contains, IfNone, IfSome, Option, slice_index}
use Rattle.std.proofs.lemmas.Bool.{cases_eq}
use Rattle.std.proofs.lemmas.Bool.Decides.{eqb_tells}
use Rattle.std.proofs.lemmas.List.{get_or_default}
use Rattle.std.proofs.lemmas.List.Elements.{All-contains, All-head, All-tail}
use Rattle.std.proofs.lemmas.List.Sums.{sum_by-cons}
use Rattle.plan_schedule.specs.BucketContents.{bucket_len}
use Rattle.plan_schedule.specs.declared.phase.Phase.{Phase}
use Rattle.plan_schedule.specs.declared.phase.Phase.TheVariants.{Unbegun, Runnable, AtTake, Waiting, Succeeded, Failed, Abandoned, NotWanted}
use Rattle.plan_schedule.specs.declared.bucket_rules.EdgeBucket.TheVariants.{Pending, Startable, Steppable}
use Rattle.plan_schedule.specs.declared.bucket_rules.PoolBucket.{PoolBucket}
use Rattle.plan_schedule.specs.declared.bucket_rules.PoolBucket.TheVariants.{Idle, Free, Full}
use Rattle.plan_schedule.specs.declared.plan.Plan.{Plan}
use Rattle.plan_schedule.specs.declared.schedule.Schedule.{Schedule}
use Rattle.plan_schedule.specs.declared.schedule.picking.Pick.{Pick}
use Rattle.plan_schedule.specs.declared.schedule.picking.Pick.TheVariants.{Start, Skip, Stop, Step}
use Rattle.plan_schedule.specs.Phases.{is_unsuccessful, has_succeeded, phase_at}
use Rattle.plan_schedule.specs.Counts.{holders_of, one}
use Rattle.plan_schedule.specs.BucketRules.{edge_row, failed_wait_at, pool_row, pool_row_for, row_for, unbegun_bucket}
use Rattle.plan_schedule.specs.Scheduling.{IsSchedule, IsFailedWait, IsPlan, edges_of, count_unsucceeded, waits_of}
use Rattle.plan_schedule.specs.Picking.{AtTakeStays, IsEmptyRow, IsEnabled, NoEdgeIn, StepsFirst, UnbegunStays, has_room, is_spent}
use Rattle.plan_schedule.proofs.WaitLemmas.{in_bucket_len, bucket_len_in}

abbrev unbegun_row : ℕ → Option ℕ → ℕ
unbegun_row w b = edge_row (unbegun_bucket w b)

-- the row of an edge that hasn't begun
unbegun_is : (w : ℕ) (b : Option ℕ) (s : ℕ) → unbegun_row w b ≡ s → ((s ≡ 1) × (b ≡ None)) ⊎ (((s ≡ 2) × (b ≡ None) × (w ≡ 0)) ⊎ ((s ≡ 3) × ((x : ℕ) × (b ≡ Some x))))
unbegun_is w (Some x) s e = inr (inr (sym e, (x, refl)))
unbegun_is w None s e = elim (eqb_tells w 0) [
  | inl z ↦ inr (inl (sym e ∙ ap (λ v. edge_row (if v then Startable else Pending)) z.0, refl, z.1))
  | inr z ↦ inl (sym e ∙ ap (λ v. edge_row (if v then Startable else Pending)) z.0, refl)
]

pub going_at : (phase : Phase) (w : ℕ) (b : Option ℕ) (pool : ℕ) → row_for phase w b pool ≡ 4 → (h : Bool) × (phase ≡ Runnable h)
going_at Unbegun w b pool e = elim (unbegun_is w b 4 e) [ inl x ↦ absurd (omega (arith, x.0)) | inr x ↦ elim x [ inl y ↦ absurd (omega (arith, y.0)) | inr y ↦ absurd (omega (arith, y.0)) ] ]
going_at (Runnable h) w b pool e = (h, refl)
going_at (AtTake h) w b pool e = absurd (omega (arith, e))
going_at (Waiting h) w b pool e = absurd (omega (arith, e))
going_at Succeeded w b pool e = absurd (omega (arith, e))
going_at Failed w b pool e = absurd (omega (arith, e))
going_at Abandoned w b pool e = absurd (omega (arith, e))
going_at NotWanted w b pool e = absurd (omega (arith, e))

pub at_take_at : (phase : Phase) (w : ℕ) (b : Option ℕ) (pool q : ℕ) → row_for phase w b pool ≡ 5 + q → ((h : Bool) × (phase ≡ AtTake h)) × (pool ≡ q)
at_take_at Unbegun w b pool q e = elim (unbegun_is w b (5 + q) e) [ inl x ↦ absurd (omega (arith, x.0)) | inr x ↦ elim x [ inl y ↦ absurd (omega (arith, y.0)) | inr y ↦ absurd (omega (arith, y.0)) ] ]
at_take_at (Runnable h) w b pool q e = absurd (omega (arith, e))
at_take_at (AtTake h) w b pool q e = ((h, refl), omega (arith, e))
at_take_at (Waiting h) w b pool q e = absurd (omega (arith, e))
at_take_at Succeeded w b pool q e = absurd (omega (arith, e))
at_take_at Failed w b pool q e = absurd (omega (arith, e))
at_take_at Abandoned w b pool q e = absurd (omega (arith, e))
at_take_at NotWanted w b pool q e = absurd (omega (arith, e))

-- rows 1 to 3
pub unbegun_at : (phase : Phase) (w : ℕ) (b : Option ℕ) (pool s : ℕ) → 0 < s → s < 4 → row_for phase w b pool ≡ s → (phase ≡ Unbegun) × (unbegun_row w b ≡ s)
unbegun_at Unbegun w b pool s h g e = (refl, e)
unbegun_at (Runnable x) w b pool s h g e = absurd (omega (arith, h, g, e))
unbegun_at (AtTake x) w b pool s h g e = absurd (omega (arith, h, g, e))
unbegun_at (Waiting x) w b pool s h g e = absurd (omega (arith, h, g, e))
unbegun_at Succeeded w b pool s h g e = absurd (omega (arith, h, g, e))
unbegun_at Failed w b pool s h g e = absurd (omega (arith, h, g, e))
unbegun_at Abandoned w b pool s h g e = absurd (omega (arith, h, g, e))
unbegun_at NotWanted w b pool s h g e = absurd (omega (arith, h, g, e))

pub failed_wait_at3 : (w : ℕ) (b : Option ℕ) → unbegun_row w b ≡ 3 → (x : ℕ) × (b ≡ Some x)
failed_wait_at3 w b e = elim (unbegun_is w b 3 e) [ inl x ↦ absurd (omega (arith, x.0)) | inr x ↦ elim x [ inl y ↦ absurd (omega (arith, y.0)) | inr y ↦ y.1 ] ]

pub none_at2 : (w : ℕ) (b : Option ℕ) → unbegun_row w b ≡ 2 → w ≡ 0
none_at2 w b e = elim (unbegun_is w b 2 e) [ inl x ↦ absurd (omega (arith, x.0)) | inr x ↦ elim x [ inl y ↦ y.2 | inr y ↦ absurd (omega (arith, y.0)) ] ]

-- the bucket of an edge, by its phase
pub stands : (plan : Plan) (b : Schedule) (e : ℕ) (phase : Phase) → IsSchedule plan b → e < edges_of plan → phase_at b.phases.items e ≡ phase
    → slice_index b.buckets.bucket e ≡ row_for phase (slice_index b.waiting.items e) (failed_wait_at b.failed_wait.items e) (slice_index plan.pools.items e)
stands plan b e phase are h is =
    are.kept.filed e h ∙ ap (λ ph. row_for ph (slice_index b.waiting.items e) (failed_wait_at b.failed_wait.items e) (slice_index plan.pools.items e)) is

pub bare_zero : (bucket : List ℕ) (s : ℕ) → IsEmptyRow bucket s → bucket_len s bucket ≡ 0
bare_zero bucket s bare = elim (cases_eq (bucket_len s bucket) 0) [
  | inl z ↦ z
  | inr n ↦ let k = in_bucket_len bucket s (omega (arith, n)) in absurd (bare k.0 k.1 (get_or_default bucket k.0 0 s k.1 ∙ k.2))
]

pub some_stand : (bucket : List ℕ) (e s : ℕ) → e < length bucket → slice_index bucket e ≡ s → 0 < bucket_len s bucket
some_stand bucket e s h q = bucket_len_in bucket s (e, h, get_or_default bucket e s 0 h ∙ q)

abbrev free_or_full : Bool → ℕ
free_or_full r = pool_row (if r then Free else Full)

abbrev none_or : Bool → Bool → ℕ
none_or a r = pool_row (if a then Idle else (if r then Free else Full))

two_ifs : (a r : Bool) → none_or a r ≡ 1 → r ≡ true
two_ifs true r e = absurd (omega (arith, e))
two_ifs false true e = refl
two_ifs false false e = absurd (omega (arith, e))

pub pool_one : (n h d : ℕ) → pool_row_for n h d ≡ 1 → ((d == 0) || nat_lt h d) ≡ true
pool_one n h d e = two_ifs (n == 0) ((d == 0) || nat_lt h d) e

some_bucket : (r : Bool) → (free_or_full r ≡ 1) ⊎ (free_or_full r ≡ 2)
some_bucket true = inl refl
some_bucket false = inr refl

not_zero : (n : ℕ) → 0 < n → (n == 0) ≡ false
not_zero n h = elim (eqb_tells n 0) [ inl z ↦ absurd (omega (arith, h, z.1)) | inr z ↦ z.0 ]

pub pool_some : (n h d : ℕ) → 0 < n → (pool_row_for n h d ≡ 1) ⊎ (pool_row_for n h d ≡ 2)
pool_some n h d lt =
    let e : pool_row_for n h d ≡ free_or_full ((d == 0) || nat_lt h d) = ap (λ v. none_or v ((d == 0) || nat_lt h d)) (not_zero n lt) in
    elim (some_bucket ((d == 0) || nat_lt h d)) [ inl x ↦ inl (e ∙ x) | inr x ↦ inr (e ∙ x) ]

pub pool_free : (n h d : ℕ) → 0 < n → ((d == 0) || nat_lt h d) ≡ true → pool_row_for n h d ≡ 1
pool_free n h d lt r =
    ap (λ v. none_or v ((d == 0) || nat_lt h d)) (not_zero n lt) ∙ ap free_or_full r

ill_not_well : (x : Phase) → is_unsuccessful x ≡ true → has_succeeded x ≡ true → ⊥
ill_not_well Unbegun h g = cc
ill_not_well (Runnable b) h g = cc
ill_not_well (AtTake b) h g = cc
ill_not_well (Waiting b) h g = cc
ill_not_well Succeeded h g = cc
ill_not_well Failed h g = cc
ill_not_well Abandoned h g = cc
ill_not_well NotWanted h g = cc

all_well : (phases : List Phase) (ws : List ℕ) → All (λ w. has_succeeded (phase_at phases w) ≡ true) ws → count_unsucceeded phases ws ≡ 0
all_well phases [] h = refl
all_well phases (w ∷ ws) h =
    let rest : count_unsucceeded phases ws ≡ 0 = all_well phases ws (All-tail (λ v. has_succeeded (phase_at phases v) ≡ true) w ws h) in
    let a : count_unsucceeded phases (w ∷ ws) ≡ one (not (has_succeeded (phase_at phases w))) + count_unsucceeded phases ws = sum_by-cons (λ v. cond (not (has_succeeded (phase_at phases v))) 1 0) w ws in
    let x : one (not (has_succeeded (phase_at phases w))) ≡ one (not true) = ap (λ v. one (not v)) (All-head (λ v. has_succeeded (phase_at phases v) ≡ true) w ws h) in
    omega (arith, rest, a, x)

none_left : (b : Bool) → one (not b) ≡ 0 → b ≡ true
none_left true h = refl
none_left false h = absurd (omega (arith, h))

pub well_all : (phases : List Phase) (ws : List ℕ) → count_unsucceeded phases ws ≡ 0 → All (λ w. has_succeeded (phase_at phases w) ≡ true) ws
well_all phases [] h = λ k d lt. absurd (omega (arith, lt))
well_all phases (w ∷ ws) h =
    let a : count_unsucceeded phases (w ∷ ws) ≡ one (not (has_succeeded (phase_at phases w))) + count_unsucceeded phases ws = sum_by-cons (λ v. cond (not (has_succeeded (phase_at phases v))) 1 0) w ws in
    let rest = well_all phases ws (omega (arith, a, h)) in
    λ k d lt. elim k as (λ j. j < length (w ∷ ws) → has_succeeded (phase_at phases (get_or (w ∷ ws) j d)) ≡ true) [
      | zero ↦ λ g. none_left (has_succeeded (phase_at phases w)) (omega (arith, a, h))
      | suc j ↦ λ g. rest j d (omega (arith, g))
    ] lt

without_failed_wait : (plan : Plan) (b : Schedule) (e : ℕ) (o : Option ℕ) → IsSchedule plan b → e < edges_of plan → failed_wait_at b.failed_wait.items e ≡ o → All (λ w. has_succeeded (phase_at b.phases.items w) ≡ true) (waits_of plan e) → o ≡ None
without_failed_wait plan b e None are h is all = refl
without_failed_wait plan b e (Some w) are h is all =
    let failed_wait : IsFailedWait b.phases.items (waits_of plan e) (Some w) = subst (IsFailedWait b.phases.items (waits_of plan e)) is (are.failed_waits_are e h) in
    absurd (ill_not_well (phase_at b.phases.items w) failed_wait.1 (All-contains (λ v. has_succeeded (phase_at b.phases.items v) ≡ true) (waits_of plan e) w all failed_wait.0))

some_failed_wait : (plan : Plan) (b : Schedule) (e w : ℕ) (o : Option ℕ) → IsSchedule plan b → e < edges_of plan → failed_wait_at b.failed_wait.items e ≡ o → Contains (waits_of plan e) w → is_unsuccessful (phase_at b.phases.items w) ≡ true → (x : ℕ) × (o ≡ Some x)
some_failed_wait plan b e w None are h is c ill =
    let failed_wait : IsFailedWait b.phases.items (waits_of plan e) None = subst (IsFailedWait b.phases.items (waits_of plan e)) is (are.failed_waits_are e h) in
    let well : is_unsuccessful (phase_at b.phases.items w) ≡ false = failed_wait w c in absurd (cc)
some_failed_wait plan b e w (Some x) are h is c ill = (x, refl)

true_or_false : (b : Bool) → b ≡ true → b ≡ false → ⊥
true_or_false b t f = cc

-- an edge at Take is in the bucket of its pool, and the pool is in one of two buckets
at_take_stands : (plan : Plan) (b : Schedule) (e : ℕ) (h : Bool) → IsPlan plan → IsSchedule plan b → e < edges_of plan → phase_at b.phases.items e ≡ AtTake h → 0 < bucket_len (5 + slice_index plan.pools.items e) b.buckets.bucket
at_take_stands plan b e h is are lt at =
    some_stand b.buckets.bucket e (5 + slice_index plan.pools.items e) (subst (λ k. e < k) (sym are.kept.buckets.sized) lt) (stands plan b e (AtTake h) are lt at)

-- if no edge can make a step and none at Take can do anything, no step is enabled
pub no_step : (plan : Plan) (b : Schedule) (jobs keep : ℕ) → IsPlan plan → IsSchedule plan b → NoEdgeIn b Steppable → AtTakeStays plan b jobs keep → (e : ℕ) → IsEnabled plan b.phases.items jobs keep (Step e) → ⊥
no_step plan b jobs keep is are going at e on =
    let lt : e < length b.buckets.bucket = subst (λ k. e < k) (sym are.kept.buckets.sized) on.0 in
    let p = slice_index plan.pools.items e in
    let pl : p < length plan.depths.items = is.in_pools e on.0 in
    let pl' : p < length b.pool_buckets.bucket = subst (λ k. p < k) (sym are.kept.pool_buckets.sized) pl in
    elim on.1 [
      | inl (h, go) ↦ going e lt (stands plan b e (Runnable h) are on.0 go)
      | inr ((h, take), may) ↦ elim at [
        | inl s ↦ true_or_false (is_spent keep b.phases.items) s.0 may.2
        | inr s ↦ elim s.1 [
          | inl full ↦ omega (arith, full, may.1)
          | inr bare ↦
              let holders : slice_index b.counts.pool_holders.items p ≡ holders_of p plan.pools.items b.phases.items = are.kept.counts.pool_holders_are p (subst (λ k. p < k) (sym are.kept.holders_sized) pl) in
              bare p pl' (are.kept.pools_filed p pl ∙ (ap (λ k. pool_row_for (bucket_len (5 + p) b.buckets.bucket) k (slice_index plan.depths.items p)) holders
              ∙ pool_free (bucket_len (5 + p) b.buckets.bucket) (holders_of p plan.pools.items b.phases.items) (slice_index plan.depths.items p) (at_take_stands plan b e h is are on.0 take) may.0))
        ]
      ]
    ]

-- if no edge is in the bucket of those that can start, no start is enabled
pub no_start : (plan : Plan) (b : Schedule) (jobs keep : ℕ) → IsSchedule plan b → NoEdgeIn b Startable → (e : ℕ) → IsEnabled plan b.phases.items jobs keep (Start e) → ⊥
no_start plan b jobs keep are bare e on =
    let lt : e < length b.buckets.bucket = subst (λ k. e < k) (sym are.kept.buckets.sized) on.0 in
    let failed_wait : failed_wait_at b.failed_wait.items e ≡ None = without_failed_wait plan b e (failed_wait_at b.failed_wait.items e) are on.0 refl on.2 in
    let waiting : slice_index b.waiting.items e ≡ 0 = are.waiting e on.0 ∙ all_well b.phases.items (waits_of plan e) on.2 in
    bare e lt (stands plan b e Unbegun are on.0 on.1 ∙ (ap (unbegun_row (slice_index b.waiting.items e)) failed_wait ∙ ap (λ w. unbegun_row w None) waiting))

pub none_enabled : (plan : Plan) (b : Schedule) (jobs keep : ℕ) → IsPlan plan → IsSchedule plan b → NoEdgeIn b Steppable → AtTakeStays plan b jobs keep → UnbegunStays b keep
    → (pick : Pick) → IsEnabled plan b.phases.items jobs keep pick → ⊥
none_enabled plan b jobs keep is are going at unbegun (Start e) on = no_start plan b jobs keep are unbegun.1 e on
none_enabled plan b jobs keep is are going at unbegun (Skip e w) on =
    let lt : e < length b.buckets.bucket = subst (λ k. e < k) (sym are.kept.buckets.sized) on.0 in
    let failed_wait = some_failed_wait plan b e w (failed_wait_at b.failed_wait.items e) are on.0 refl on.2 on.3 in
    unbegun.0 e lt (stands plan b e Unbegun are on.0 on.1 ∙ ap (unbegun_row (slice_index b.waiting.items e)) failed_wait.1)
none_enabled plan b jobs keep is are going at unbegun (Stop e) on =
    let lt : e < length b.buckets.bucket = subst (λ k. e < k) (sym are.kept.buckets.sized) on.0 in
    let p = slice_index plan.pools.items e in
    let pl : p < length plan.depths.items = is.in_pools e on.0 in
    let pl' : p < length b.pool_buckets.bucket = subst (λ k. p < k) (sym are.kept.pool_buckets.sized) pl in
    elim on.2 [
      | inl new ↦
          let here : slice_index b.buckets.bucket e ≡ unbegun_row (slice_index b.waiting.items e) (failed_wait_at b.failed_wait.items e) = stands plan b e Unbegun are on.0 new in
          elim (unbegun_is (slice_index b.waiting.items e) (failed_wait_at b.failed_wait.items e) (unbegun_row (slice_index b.waiting.items e) (failed_wait_at b.failed_wait.items e)) refl) [
            | inl x ↦ elim unbegun.2 [ inl f ↦ true_or_false (is_spent keep b.phases.items) on.1 f | inr bare ↦ bare e lt (here ∙ x.0) ]
            | inr x ↦ elim x [ inl y ↦ unbegun.1 e lt (here ∙ y.0) | inr y ↦ unbegun.0 e lt (here ∙ y.0) ]
          ]
      | inr (h, take) ↦ elim at [
        | inl s ↦ elim (pool_some (bucket_len (5 + p) b.buckets.bucket) (slice_index b.counts.pool_holders.items p) (slice_index plan.depths.items p) (at_take_stands plan b e h is are on.0 take)) [
          | inl x ↦ s.1 p pl' (are.kept.pools_filed p pl ∙ x)
          | inr x ↦ s.2 p pl' (are.kept.pools_filed p pl ∙ x)
        ]
        | inr s ↦ true_or_false (is_spent keep b.phases.items) on.1 s.0
      ]
    ]
none_enabled plan b jobs keep is are going at unbegun (Step e) on = no_step plan b jobs keep is are going at e on

pub may_take : (plan : Plan) (b : Schedule) (e : ℕ) → IsPlan plan → IsSchedule plan b → e < edges_of plan → slice_index b.pool_buckets.bucket (slice_index plan.pools.items e) ≡ 1 → has_room plan b.phases.items (slice_index plan.pools.items e) ≡ true
may_take plan b e is are lt one_is =
    let p = slice_index plan.pools.items e in
    let pl : p < length plan.depths.items = is.in_pools e lt in
    let holders : slice_index b.counts.pool_holders.items p ≡ holders_of p plan.pools.items b.phases.items = are.kept.counts.pool_holders_are p (subst (λ k. p < k) (sym are.kept.holders_sized) pl) in
    subst (λ k. ((slice_index plan.depths.items p == 0) || nat_lt k (slice_index plan.depths.items p)) ≡ true) holders
    (pool_one (bucket_len (5 + p) b.buckets.bucket) (slice_index b.counts.pool_holders.items p) (slice_index plan.depths.items p) (sym (are.kept.pools_filed p pl) ∙ one_is))

-- an implication of None
pub none_then : {X : Type 0} (r : Option X) (P Q : Type 0) → IfNone r P → (P → Q) → IfNone r Q
none_then None P Q p f = f p
none_then (Some x) P Q p f = p

-- if the failure limit has been reached and no edge can make a step, no step is enabled
spent_no_step : (plan : Plan) (b : Schedule) (jobs keep : ℕ) → IsSchedule plan b → NoEdgeIn b Steppable → is_spent keep b.phases.items ≡ true → (e : ℕ) → IsEnabled plan b.phases.items jobs keep (Step e) → ⊥
spent_no_step plan b jobs keep are going spent e on =
    elim on.1 [
      | inl (h, go) ↦ going e (subst (λ k. e < k) (sym are.kept.buckets.sized) on.0) (stands plan b e (Runnable h) are on.0 go)
      | inr (take, may) ↦ true_or_false (is_spent keep b.phases.items) spent may.2
    ]

-- then any pick is right
pub spent_first : (plan : Plan) (b : Schedule) (jobs keep : ℕ) (x : Pick) → IsSchedule plan b → is_spent keep b.phases.items ≡ true → NoEdgeIn b Steppable → StepsFirst plan b.phases.items jobs keep x
spent_first plan b jobs keep x are spent going e on = absurd (spent_no_step plan b jobs keep are going spent e on)

pub any_first : (plan : Plan) (b : Schedule) (jobs keep : ℕ) (x : Pick) → IsPlan plan → IsSchedule plan b → NoEdgeIn b Steppable → AtTakeStays plan b jobs keep → StepsFirst plan b.phases.items jobs keep x
any_first plan b jobs keep x is are going at e on = absurd (no_step plan b jobs keep is are going at e on)

-- a property of all values is one of the value that is there
pub some_any : {X : Type 0} (r : Option X) (P : X → Type 0) → ((x : X) → P x) → IfSome r P
some_any None P f = tt
some_any (Some x) P f = f x

-- a pool in no bucket but Idle has an edge at Take
pub not_idle : (bucket : PoolBucket) → bucket ≢ Idle → 0 < pool_row bucket
not_idle Idle h = absurd (h refl)
not_idle Free h = omega arith
not_idle Full h = omega arith
