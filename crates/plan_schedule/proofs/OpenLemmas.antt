-- Before any edge has begun, each number equals its count.
use Rattle.std.proofs.Common.{◌≡◌, ℕ, zero, suc, ◌+◌, ◌<◌, List, [], ◌∷◌, length, refl, sym, ◌∙◌, ap, subst, arith, get_or, inl, inr, Bool, true, false, cond, map, None}
use Rattle.std.specs.Prelude.{◌==◌, ◌&&◌, not, Option, count_by, replicate, slice_index}
use Rattle.std.proofs.lemmas.Bool.{cases_lt}
use Rattle.std.proofs.lemmas.List.{get_or-map, get_or-replicate, get_or_past, length-map, length-replicate}
use Rattle.std.proofs.lemmas.List.Sums.{sum_by-cons}
use Rattle.plan_schedule.specs.declared.phase.Phase.{Phase}
use Rattle.plan_schedule.specs.declared.phase.Phase.TheVariants.{Unbegun, NotWanted}
use Rattle.plan_schedule.specs.declared.plan.Plan.{Plan}
use Rattle.plan_schedule.specs.declared.schedule.Schedule.{Schedule}
use Rattle.plan_schedule.specs.Phases.{has_failed, holds, is_unsuccessful, is_open, has_succeeded, phase_at}
use Rattle.plan_schedule.specs.Counts.{holders_of, one}
use Rattle.plan_schedule.specs.BucketRules.{AreBuckets, ArePoolBuckets, edge_row, failed_wait_at, pool_row_for, row_for, row_of}
use Rattle.plan_schedule.specs.Scheduling.{IsSchedule, IsFailedWait, IsPlan, edges_of, count_unsucceeded, waits_of}
use Rattle.plan_schedule.specs.Picking.{IsEmptyRow}
use Rattle.plan_schedule.proofs.BucketLemmas.{unbegun_low}
use Rattle.plan_schedule.proofs.PickLemmas.{bare_zero}
use Rattle.plan_schedule.specs.Opening.{opening_phase, opening_bucket}

-- a test that is false for an edge that hasn't begun or isn't wanted
none_is : (f : Phase → Bool) (wanted : List Bool) (x : ℕ) → f Unbegun ≡ false → f NotWanted ≡ false → f (phase_at (map opening_phase wanted) x) ≡ false
none_is f [] x u n = u
none_is f (true ∷ wanted) zero u n = u
none_is f (false ∷ wanted) zero u n = n
none_is f (w ∷ wanted) (suc x) u n = none_is f wanted x u n

count_none : (f : Phase → Bool) (wanted : List Bool) → f Unbegun ≡ false → f NotWanted ≡ false → count_by f (map opening_phase wanted) ≡ 0
count_none f [] u n = refl
count_none f (true ∷ wanted) u n =
    let rest : count_by f (map opening_phase wanted) ≡ 0 = count_none f wanted u n in
    let z : one (f Unbegun) ≡ one false = ap one u in
    let a : count_by f (Unbegun ∷ map opening_phase wanted) ≡ one (f Unbegun) + count_by f (map opening_phase wanted) = sum_by-cons (λ v. cond (f v) 1 0) Unbegun (map opening_phase wanted) in
    omega (arith, rest, z, a)
count_none f (false ∷ wanted) u n =
    let rest : count_by f (map opening_phase wanted) ≡ 0 = count_none f wanted u n in
    let z : one (f NotWanted) ≡ one false = ap one n in
    let a : count_by f (NotWanted ∷ map opening_phase wanted) ≡ one (f NotWanted) + count_by f (map opening_phase wanted) = sum_by-cons (λ v. cond (f v) 1 0) NotWanted (map opening_phase wanted) in
    omega (arith, rest, z, a)

and_none : (b : Bool) → one (b && false) ≡ 0
and_none true = refl
and_none false = refl

holders_none : (p : ℕ) (pools : List ℕ) (wanted : List Bool) → holders_of p pools (map opening_phase wanted) ≡ 0
holders_none p [] wanted = refl
holders_none p (q ∷ pools) [] = refl
holders_none p (q ∷ pools) (true ∷ wanted) = let rest : holders_of p pools (map opening_phase wanted) ≡ 0 = holders_none p pools wanted in let z : one ((q == p) && false) ≡ 0 = and_none (q == p) in omega (arith, rest, z)
holders_none p (q ∷ pools) (false ∷ wanted) = let rest : holders_of p pools (map opening_phase wanted) ≡ 0 = holders_none p pools wanted in let z : one ((q == p) && false) ≡ 0 = and_none (q == p) in omega (arith, rest, z)

unsucceeded_all : (wanted : List Bool) (ws : List ℕ) → count_unsucceeded (map opening_phase wanted) ws ≡ length ws
unsucceeded_all wanted [] = refl
unsucceeded_all wanted (w ∷ ws) =
    let phases = map opening_phase wanted in
    let rest : count_unsucceeded phases ws ≡ length ws = unsucceeded_all wanted ws in
    let a : count_unsucceeded phases (w ∷ ws) ≡ one (not (has_succeeded (phase_at phases w))) + count_unsucceeded phases ws = sum_by-cons (λ v. cond (not (has_succeeded (phase_at phases v))) 1 0) w ws in
    let z : one (not (has_succeeded (phase_at phases w))) ≡ one (not false) = ap (λ v. one (not v)) (none_is has_succeeded wanted w refl refl) in
    omega (arith, rest, a, z)

bucket_is : (wanted : Bool) (n pool : ℕ) → edge_row (opening_bucket wanted n) ≡ row_for (opening_phase wanted) n None pool
bucket_is true n pool = refl
bucket_is false n pool = refl

pub bucket_low : (wanted : Bool) (n : ℕ) → edge_row (opening_bucket wanted n) < 5
bucket_low true n = unbegun_low n None
bucket_low false n = omega arith

zero_at : (k s : ℕ) → slice_index (replicate k 0) s ≡ 0
zero_at k s = elim (cases_lt s k) [
  | inl h ↦ get_or-replicate k s 0 0 h
  | inr h ↦ get_or_past (replicate k 0) s 0 (let l = length-replicate {A = ℕ} k 0 in omega (arith, l, h))
]

abbrev nobody : Option ℕ
nobody = None

none_at : (k s : ℕ) → failed_wait_at (replicate k None) s ≡ None
none_at k s = elim (cases_lt s k) [
  | inl h ↦ get_or-replicate k s nobody nobody h
  | inr h ↦ get_or_past (replicate k nobody) s nobody (let l = length-replicate {A = Option ℕ} k nobody in omega (arith, l, h))
]

pub opened : (plan : Plan) (b : Schedule) (wanted : List Bool) → IsPlan plan → length wanted ≡ edges_of plan
    → b.phases.items ≡ map opening_phase wanted → b.waiting.items ≡ map length plan.waits.items → b.failed_wait.items ≡ replicate (edges_of plan) None
    → b.counts.pool_holders.items ≡ replicate (length plan.depths.items) 0 → b.counts.holders ≡ 0 → b.counts.failures ≡ 0 → b.counts.open_edges ≡ count_by is_open b.phases.items
    → AreBuckets (edges_of plan) (length plan.depths.items) plan.pools.items b.buckets
    → ((e : ℕ) → e < edges_of plan → slice_index b.buckets.bucket e ≡ edge_row (opening_bucket (get_or wanted e false) (slice_index b.waiting.items e)))
    → b.pool_buckets.bucket ≡ replicate (length plan.depths.items) 0 → ArePoolBuckets (length plan.depths.items) b.pool_buckets → IsSchedule plan b
opened plan b wanted is sized ep ew eb eh h0 f0 eo buckets filed pool_bucket pool_buckets =
    let phase_of : (e : ℕ) → e < edges_of plan → phase_at b.phases.items e ≡ opening_phase (get_or wanted e false)
    = λ e h. ap (λ (l : List Phase). phase_at l e) ep ∙ get_or-map opening_phase wanted e false Unbegun (omega (arith, h, sized)) in
    let failed_wait_is : (e : ℕ) → failed_wait_at b.failed_wait.items e ≡ None = λ e. ap (λ (l : List (Option ℕ)). failed_wait_at l e) eb ∙ none_at (edges_of plan) e in
    let its : (e : ℕ) → e < edges_of plan → slice_index b.buckets.bucket e ≡ row_of plan.pools.items b.phases.items b.waiting.items b.failed_wait.items e
    = λ e h. filed e h ∙ (bucket_is (get_or wanted e false) (slice_index b.waiting.items e) (slice_index plan.pools.items e)
    ∙ (ap (λ ph. row_for ph (slice_index b.waiting.items e) None (slice_index plan.pools.items e)) (sym (phase_of e h))
    ∙ ap (λ v. row_for (phase_at b.phases.items e) (slice_index b.waiting.items e) v (slice_index plan.pools.items e)) (sym (failed_wait_is e)))) in
    let bare : (p : ℕ) → IsEmptyRow b.buckets.bucket (5 + p) = λ p e h q.
    let el : e < edges_of plan = subst (λ k. e < k) buckets.sized h in
    let low : edge_row (opening_bucket (get_or wanted e false) (slice_index b.waiting.items e)) < 5 = bucket_low (get_or wanted e false) (slice_index b.waiting.items e) in
    omega (arith, filed e el, low, q) in
    record {
      kept = record {
        phases_sized = ap (λ (l : List Phase). length l) ep ∙ (length-map wanted opening_phase ∙ sized);
        waiting_sized = ap (λ (l : List ℕ). length l) ew ∙ length-map plan.waits.items length;
        failed_wait_sized = ap (λ (l : List (Option ℕ)). length l) eb ∙ length-replicate (edges_of plan) nobody;
        holders_sized = ap (λ (l : List ℕ). length l) eh ∙ length-replicate (length plan.depths.items) 0;
        counts = record {
          pool_holders_are = λ p h. ap (λ (l : List ℕ). slice_index l p) eh ∙ (zero_at (length plan.depths.items) p ∙ (sym (holders_none p plan.pools.items wanted) ∙ ap (holders_of p plan.pools.items) (sym ep)));
          holders_are = h0 ∙ (sym (count_none holds wanted refl refl) ∙ ap (λ (l : List Phase). count_by holds l) (sym ep));
          failures_are = f0 ∙ (sym (count_none has_failed wanted refl refl) ∙ ap (λ (l : List Phase). count_by has_failed l) (sym ep));
          open_are = eo;
        };
        buckets = buckets;
        filed = its;
        pool_buckets = pool_buckets;
        pools_filed = λ p h. ap (λ (l : List ℕ). slice_index l p) pool_bucket ∙ (zero_at (length plan.depths.items) p
            ∙ ap (λ k. pool_row_for k (slice_index b.counts.pool_holders.items p) (slice_index plan.depths.items p)) (sym (bare_zero b.buckets.bucket (5 + p) (bare p))));
      };
      waiting = λ e h. ap (λ (l : List ℕ). slice_index l e) ew ∙ (get_or-map length plan.waits.items e [] 0 h ∙ (sym (unsucceeded_all wanted (waits_of plan e)) ∙ ap (λ (l : List Phase). count_unsucceeded l (waits_of plan e)) (sym ep)));
      failed_waits_are = λ e h. subst (IsFailedWait b.phases.items (waits_of plan e)) (sym (failed_wait_is e)) (λ w c. ap (λ (l : List Phase). is_unsuccessful (phase_at l w)) ep ∙ none_is is_unsuccessful wanted w refl refl);
    }
