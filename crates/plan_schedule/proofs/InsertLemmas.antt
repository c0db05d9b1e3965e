-- A number is added at the next position of a bucket.
use Rattle.std.proofs.Common.{◌≡◌, ◌≢◌, ℕ, ◌+◌, ◌<◌, ◌≤◌, ◌^◌, List, [], length, refl, sym, ◌∙◌, ap, subst, arith, get_or, set, inl, inr, length-set, get_or-set_same, get_or-set_other}
use Rattle.std.specs.Prelude.{slice_index}
use Rattle.std.proofs.lemmas.Bool.{cases_eq}
use Rattle.plan_schedule.specs.BucketContents.{bucket_len}
use Rattle.plan_schedule.specs.Positions.{number_at, ArePositions, ArePositionsBut}
use Rattle.plan_schedule.proofs.PositionLemmas.{capacity_kept, position_beside, position_elsewhere, position_same, rows_with, bucket_len_else, bucket_len_less, bucket_len_new, bucket_len_old}

-- the number e that is added at position n of bucket s
record Inserting (rows : List (List ℕ)) (lens places bucket : List ℕ) (e s n : ℕ) : Type 0 where
  here : e < length bucket
  row : s < length rows
  another : slice_index bucket e ≢ s
  len : slice_index lens s ≡ n
  capacity : n < length (get_or rows s [])

old_low : (rows : List (List ℕ)) (lens places bucket : List ℕ) (e s n x : ℕ) → ArePositionsBut e rows lens places bucket → Inserting rows lens places bucket e s n → x < length bucket → x ≢ e
    → slice_index (set places e n) x < slice_index (set lens s (n + 1)) (slice_index (set bucket e s) x)
old_low rows lens places bucket e s n x is d h other =
    let sl : s < length lens = subst (λ k. s < k) (sym is.counted) d.row in
    let at : slice_index (set places e n) x ≡ slice_index places x = get_or-set_other places e x n 0 other in
    let on : slice_index (set bucket e s) x ≡ slice_index bucket x = get_or-set_other bucket e x s 0 other in
    let low : slice_index places x < slice_index lens (slice_index bucket x) = is.low x h other in
    let len_on : slice_index (set lens s (n + 1)) (slice_index (set bucket e s) x) ≡ slice_index (set lens s (n + 1)) (slice_index bucket x) = ap (slice_index (set lens s (n + 1))) on in
    elim (cases_eq (slice_index bucket x) s) [
      | inl same ↦
          let new : slice_index (set lens s (n + 1)) (slice_index bucket x) ≡ n + 1 = ap (slice_index (set lens s (n + 1))) same ∙ get_or-set_same lens s (n + 1) 0 sl in
          let old : slice_index lens (slice_index bucket x) ≡ n = ap (slice_index lens) same ∙ d.len in
          omega (arith, at, low, len_on, new, old)
      | inr apart ↦
          let new : slice_index (set lens s (n + 1)) (slice_index bucket x) ≡ slice_index lens (slice_index bucket x) = get_or-set_other lens s (slice_index bucket x) (n + 1) 0 apart in
          omega (arith, at, low, len_on, new)
    ]

old_here : (rows : List (List ℕ)) (lens places bucket : List ℕ) (e s n x : ℕ) → ArePositionsBut e rows lens places bucket → Inserting rows lens places bucket e s n → x < length bucket → x ≢ e
    → number_at (rows_with rows s n e) (slice_index (set bucket e s) x) (slice_index (set places e n) x) ≡ x
old_here rows lens places bucket e s n x is d h other =
    let at : slice_index (set places e n) x ≡ slice_index places x = get_or-set_other places e x n 0 other in
    let on : slice_index (set bucket e s) x ≡ slice_index bucket x = get_or-set_other bucket e x s 0 other in
    let low : slice_index places x < slice_index lens (slice_index bucket x) = is.low x h other in
    ap (λ g. number_at (rows_with rows s n e) g (slice_index (set places e n) x)) on ∙ (ap (number_at (rows_with rows s n e) (slice_index bucket x)) at ∙ elim (cases_eq (slice_index bucket x) s) [
      | inl same ↦
          let old : slice_index lens (slice_index bucket x) ≡ n = ap (slice_index lens) same ∙ d.len in
          let apart : slice_index places x ≢ n = λ q. omega (arith, q, low, old) in
          ap (λ g. number_at (rows_with rows s n e) g (slice_index places x)) same
          ∙ (position_beside rows s n (slice_index places x) e d.row apart ∙ (ap (λ g. number_at rows g (slice_index places x)) (sym same) ∙ is.here x h other))
      | inr else ↦ position_elsewhere rows s (slice_index bucket x) n (slice_index places x) e else ∙ is.here x h other
    ])

-- the number at an occupied position
record Found (rows : List (List ℕ)) (places bucket : List ℕ) (s i : ℕ) : Type 0 where
  who : ℕ
  is : number_at rows s i ≡ who
  known : who < length bucket
  there : slice_index bucket who ≡ s
  back : slice_index places who ≡ i

found_old : (rows : List (List ℕ)) (lens places bucket : List ℕ) (e s n t i : ℕ) → ArePositionsBut e rows lens places bucket → Inserting rows lens places bucket e s n
    → i < slice_index lens t → number_at (rows_with rows s n e) t i ≡ number_at rows t i → Found (rows_with rows s n e) (set places e n) (set bucket e s) t i
found_old rows lens places bucket e s n t i is d lt same =
    let other : number_at rows t i ≢ e = is.other t i lt in
    record {
      who = number_at rows t i;
      is = same;
      known = subst (λ k. number_at rows t i < k) (sym (length-set bucket e s)) (is.known t i lt);
      there = get_or-set_other bucket e (number_at rows t i) s 0 other ∙ is.there t i lt;
      back = get_or-set_other places e (number_at rows t i) n 0 other ∙ is.back t i lt;
    }

found : (rows : List (List ℕ)) (lens places bucket : List ℕ) (e s n t i : ℕ) → ArePositionsBut e rows lens places bucket → Inserting rows lens places bucket e s n
    → i < slice_index (set lens s (n + 1)) t → Found (rows_with rows s n e) (set places e n) (set bucket e s) t i
found rows lens places bucket e s n t i is d lt =
    let sl : s < length lens = subst (λ k. s < k) (sym is.counted) d.row in
    let ep : e < length places = subst (λ k. e < k) (sym is.placed) d.here in
    elim (cases_eq t s) [
      | inl same ↦
          let len : slice_index (set lens s (n + 1)) t ≡ n + 1 = ap (slice_index (set lens s (n + 1))) same ∙ get_or-set_same lens s (n + 1) 0 sl in
          let old : slice_index lens t ≡ n = ap (slice_index lens) same ∙ d.len in
          elim (cases_eq i n) [
            | inl at ↦ record {
              who = e;
              is = ap (λ g. number_at (rows_with rows s n e) g i) same ∙ (ap (number_at (rows_with rows s n e) s) at ∙ position_same rows s n e d.row d.capacity);
              known = subst (λ k. e < k) (sym (length-set bucket e s)) d.here;
              there = get_or-set_same bucket e s 0 d.here ∙ sym same;
              back = get_or-set_same places e n 0 ep ∙ sym at;
            }
            | inr at ↦ found_old rows lens places bucket e s n t i is d (omega (arith, lt, len, old, at))
                (ap (λ g. number_at (rows_with rows s n e) g i) same ∙ (position_beside rows s n i e d.row at ∙ ap (λ g. number_at rows g i) (sym same)))
          ]
      | inr apart ↦
          let len : slice_index (set lens s (n + 1)) t ≡ slice_index lens t = get_or-set_other lens s t (n + 1) 0 apart in
          found_old rows lens places bucket e s n t i is d (omega (arith, lt, len)) (position_elsewhere rows s t n i e apart)
    ]

many_new : (rows : List (List ℕ)) (lens places bucket : List ℕ) (e s n t : ℕ) → ArePositionsBut e rows lens places bucket → Inserting rows lens places bucket e s n → t < length rows
    → slice_index (set lens s (n + 1)) t ≡ bucket_len t (set bucket e s)
many_new rows lens places bucket e s n t is d h =
    let sl : s < length lens = subst (λ k. s < k) (sym is.counted) d.row in
    elim (cases_eq t s) [
      | inl same ↦
          let len : slice_index (set lens s (n + 1)) t ≡ n + 1 = ap (slice_index (set lens s (n + 1))) same ∙ get_or-set_same lens s (n + 1) 0 sl in
          let old : slice_index lens s ≡ bucket_len s bucket = is.many s d.row (λ q. d.another (sym q)) in
          let new : bucket_len s (set bucket e s) ≡ bucket_len s bucket + 1 = bucket_len_new bucket e s d.here d.another in
          let on : bucket_len t (set bucket e s) ≡ bucket_len s (set bucket e s) = ap (λ g. bucket_len g (set bucket e s)) same in
          omega (arith, len, old, new, on, d.len)
      | inr apart ↦
          let len : slice_index (set lens s (n + 1)) t ≡ slice_index lens t = get_or-set_other lens s t (n + 1) 0 apart in
          elim (cases_eq t (slice_index bucket e)) [
            | inl left ↦
                let fewer : slice_index lens (slice_index bucket e) + 1 ≡ bucket_len (slice_index bucket e) bucket = is.fewer in
                let less : bucket_len (slice_index bucket e) (set bucket e s) + 1 ≡ bucket_len (slice_index bucket e) bucket = bucket_len_old bucket e s d.here d.another in
                let on : bucket_len t (set bucket e s) ≡ bucket_len (slice_index bucket e) (set bucket e s) = ap (λ g. bucket_len g (set bucket e s)) left in
                let lens_t : slice_index lens t ≡ slice_index lens (slice_index bucket e) = ap (slice_index lens) left in
                omega (arith, len, fewer, less, on, lens_t)
            | inr stay ↦ len ∙ (is.many t h stay ∙ sym (bucket_len_else bucket e s t d.here (λ q. stay (sym q)) (λ q. apart (sym q))))
          ]
    ]

fits_new : (rows : List (List ℕ)) (lens places bucket : List ℕ) (e s n t : ℕ) → ArePositionsBut e rows lens places bucket → Inserting rows lens places bucket e s n
    → slice_index (set lens s (n + 1)) t ≤ length (get_or (rows_with rows s n e) t [])
fits_new rows lens places bucket e s n t is d =
    let sl : s < length lens = subst (λ k. s < k) (sym is.counted) d.row in
    let capacity : length (get_or (rows_with rows s n e) t []) ≡ length (get_or rows t []) = capacity_kept rows s n e t in
    elim (cases_eq t s) [
      | inl same ↦
          let len : slice_index (set lens s (n + 1)) t ≡ n + 1 = ap (slice_index (set lens s (n + 1))) same ∙ get_or-set_same lens s (n + 1) 0 sl in
          let capacities : length (get_or rows t []) ≡ length (get_or rows s []) = ap (λ g. length (get_or rows g [])) same in
          omega (arith, len, capacity, capacities, d.capacity)
      | inr apart ↦
          let len : slice_index (set lens s (n + 1)) t ≡ slice_index lens t = get_or-set_other lens s t (n + 1) 0 apart in
          let old : slice_index lens t ≤ length (get_or rows t []) = is.fits t in
          omega (arith, len, capacity, old)
    ]

pub inserts : (rows : List (List ℕ)) (lens places bucket : List ℕ) (e s : ℕ) → ArePositionsBut e rows lens places bucket → e < length bucket → s < length rows → slice_index bucket e ≢ s
    → bucket_len s bucket < length (get_or rows s [])
    → ArePositions (rows_with rows s (slice_index lens s) e) (set lens s (slice_index lens s + 1)) (set places e (slice_index lens s)) (set bucket e s)
inserts rows lens places bucket e s is here row another capacity =
    let n = slice_index lens s in
    let many : n ≡ bucket_len s bucket = is.many s row (λ q. another (sym q)) in
    let d : Inserting rows lens places bucket e s n = record { here = here; row = row; another = another; len = refl; capacity = omega (arith, many, capacity) } in
    let sl : s < length lens = subst (λ k. s < k) (sym is.counted) row in
    let ep : e < length places = subst (λ k. e < k) (sym is.placed) here in
    let new_bucket : slice_index (set bucket e s) e ≡ s = get_or-set_same bucket e s 0 here in
    let new_place : slice_index (set places e n) e ≡ n = get_or-set_same places e n 0 ep in
    let new_len : slice_index (set lens s (n + 1)) s ≡ n + 1 = get_or-set_same lens s (n + 1) 0 sl in
    let rows_len : length (rows_with rows s n e) ≡ length rows = length-set rows s (set (get_or rows s []) n e) in
    let bucket_length : length (set bucket e s) ≡ length bucket = length-set bucket e s in
    record {
      placed = length-set places e n ∙ (is.placed ∙ sym bucket_length);
      counted = length-set lens s (n + 1) ∙ (is.counted ∙ sym rows_len);
      small = subst (λ k. k < 2 ^ 32) (sym bucket_length) is.small;
      inside = λ x h. subst (λ k. slice_index (set bucket e s) x < k) (sym rows_len) (elim (cases_eq x e) [
        | inl same ↦ subst (λ k. k < length rows) (sym (ap (slice_index (set bucket e s)) same ∙ new_bucket)) row
        | inr other ↦ subst (λ k. k < length rows) (sym (get_or-set_other bucket e x s 0 other)) (is.inside x (subst (λ k. x < k) bucket_length h))
      ]);
      low = λ x h. elim (cases_eq x e) [
        | inl same ↦ subst (λ v. slice_index (set places e n) v < slice_index (set lens s (n + 1)) (slice_index (set bucket e s) v)) (sym same)
            (subst (λ v. slice_index (set places e n) e < slice_index (set lens s (n + 1)) v) (sym new_bucket) (omega (arith, new_place, new_len)))
        | inr other ↦ old_low rows lens places bucket e s n x is d (subst (λ k. x < k) bucket_length h) other
      ];
      here = λ x h. elim (cases_eq x e) [
        | inl same ↦ ap (λ v. number_at (rows_with rows s n e) (slice_index (set bucket e s) v) (slice_index (set places e n) v)) same
            ∙ (ap (λ v. number_at (rows_with rows s n e) v (slice_index (set places e n) e)) new_bucket ∙ (ap (number_at (rows_with rows s n e) s) new_place ∙ (position_same rows s n e row d.capacity ∙ sym same)))
        | inr other ↦ old_here rows lens places bucket e s n x is d (subst (λ k. x < k) bucket_length h) other
      ];
      known = λ t i h. let w = found rows lens places bucket e s n t i is d h in subst (λ v. v < length (set bucket e s)) (sym w.is) w.known;
      there = λ t i h. let w = found rows lens places bucket e s n t i is d h in subst (λ v. slice_index (set bucket e s) v ≡ t) (sym w.is) w.there;
      back = λ t i h. let w = found rows lens places bucket e s n t i is d h in subst (λ v. slice_index (set places e n) v ≡ i) (sym w.is) w.back;
      many = λ t h. many_new rows lens places bucket e s n t is d (subst (λ k. t < k) rows_len h);
      fits = λ t. fits_new rows lens places bucket e s n t is d;
    }

-- the same, by the values that the code read
pub inserts_at : (rows : List (List ℕ)) (lens places bucket : List ℕ) (e s n : ℕ) (r : List ℕ) → ArePositionsBut e rows lens places bucket → e < length bucket → s < length rows → slice_index bucket e ≢ s
    → bucket_len s bucket < length (get_or rows s []) → slice_index lens s ≡ n → set (get_or rows s []) n e ≡ r
    → ArePositions (set rows s r) (set lens s (n + 1)) (set places e n) (set bucket e s)
inserts_at rows lens places bucket e s n r is here row another capacity en er =
    let as_n : ArePositions (rows_with rows s n e) (set lens s (n + 1)) (set places e n) (set bucket e s) =
    subst (λ v. ArePositions (rows_with rows s v e) (set lens s (v + 1)) (set places e v) (set bucket e s)) en (inserts rows lens places bucket e s is here row another capacity) in
    subst (λ v. ArePositions (set rows s v) (set lens s (n + 1)) (set places e n) (set bucket e s)) er as_n

pub end_small : (rows : List (List ℕ)) (lens places bucket : List ℕ) (e s : ℕ) → ArePositionsBut e rows lens places bucket → e < length bucket → s < length rows → slice_index bucket e ≢ s
    → slice_index lens s + 1 < 2 ^ 32
end_small rows lens places bucket e s is here row another =
    let many : slice_index lens s ≡ bucket_len s bucket = is.many s row (λ q. another (sym q)) in
    let less : bucket_len s bucket + 1 ≤ length bucket = bucket_len_less bucket e s here another in
    omega (arith, many, less, is.small)
