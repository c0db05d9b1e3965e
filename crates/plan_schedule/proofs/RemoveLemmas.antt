-- A number is removed from its position.
use Rattle.std.proofs.Common.{◌≡◌, ◌≢◌, ℕ, ◌+◌, ◌-◌, ◌<◌, ◌≤◌, List, [], length, refl, sym, ◌∙◌, ap, subst, arith, get_or, set, inl, inr, length-set, get_or-set_same, get_or-set_other}
use Rattle.std.specs.Prelude.{slice_index}
use Rattle.std.proofs.lemmas.Bool.{cases_eq}
use Rattle.plan_schedule.specs.BucketContents.{bucket_len}
use Rattle.plan_schedule.specs.Positions.{number_at, ArePositions, ArePositionsBut}
use Rattle.plan_schedule.proofs.PositionLemmas.{capacity_kept, position_beside, position_elsewhere, position_same, rows_with}

-- the number e that is removed: its bucket f, its position a, and the last position l of that bucket with its
-- number y
record Leaving (rows : List (List ℕ)) (lens places bucket : List ℕ) (e f a l y : ℕ) : Type 0 where
  here : e < length bucket
  in_bucket : slice_index bucket e ≡ f
  row : f < length rows
  len : slice_index lens f ≡ l + 1
  place : slice_index places e ≡ a
  low : a ≤ l
  in_position : number_at rows f a ≡ e
  top : number_at rows f l ≡ y
  top_in : y < length bucket
  top_here : slice_index bucket y ≡ f
  top_place : slice_index places y ≡ l
  fits : l < length (get_or rows f [])

removing : (rows : List (List ℕ)) (lens places bucket : List ℕ) (e : ℕ) → ArePositions rows lens places bucket → e < length bucket
    → Leaving rows lens places bucket e (slice_index bucket e) (slice_index places e) (slice_index lens (slice_index bucket e) - 1) (number_at rows (slice_index bucket e) (slice_index lens (slice_index bucket e) - 1))
removing rows lens places bucket e s h =
    let f = slice_index bucket e in
    let low : slice_index places e < slice_index lens f = s.low e h in
    let lt : slice_index lens f - 1 < slice_index lens f = omega (arith, low) in
    let fits : slice_index lens f ≤ length (get_or rows f []) = s.fits f in
    record {
      here = h;
      in_bucket = refl;
      row = s.inside e h;
      len = omega (arith, low);
      place = refl;
      low = omega (arith, low);
      in_position = s.here e h;
      top = refl;
      top_in = s.known f (slice_index lens f - 1) lt;
      top_here = s.there f (slice_index lens f - 1) lt;
      top_place = s.back f (slice_index lens f - 1) lt;
      fits = omega (arith, fits, low);
    }

-- a number at another position than the last stays there
stays_low : (rows : List (List ℕ)) (lens places bucket : List ℕ) (e f a l y x : ℕ) → ArePositions rows lens places bucket → Leaving rows lens places bucket e f a l y → x < length bucket → x ≢ e
    → slice_index (set places y a) x < slice_index (set lens f l) (slice_index bucket x)
stays_low rows lens places bucket e f a l y x s d h n =
    let fl : f < length lens = subst (λ k. f < k) (sym s.counted) d.row in
    let len_new : slice_index (set lens f l) f ≡ l = get_or-set_same lens f l 0 fl in
    let yp : y < length places = subst (λ k. y < k) (sym s.placed) d.top_in in
    elim (cases_eq x y) [
      | inl same ↦
          let at_new : slice_index (set places y a) x ≡ a = ap (slice_index (set places y a)) same ∙ get_or-set_same places y a 0 yp in
          let bucket_x : slice_index bucket x ≡ f = ap (slice_index bucket) same ∙ d.top_here in
          let apart : a ≢ l = λ q. n (same ∙ (sym d.top ∙ (ap (number_at rows f) (sym q) ∙ d.in_position))) in
          let len_x : slice_index (set lens f l) (slice_index bucket x) ≡ l = ap (slice_index (set lens f l)) bucket_x ∙ len_new in
          omega (arith, at_new, len_x, apart, d.low)
      | inr other ↦
          let at_x : slice_index (set places y a) x ≡ slice_index places x = get_or-set_other places y x a 0 other in
          let low : slice_index places x < slice_index lens (slice_index bucket x) = s.low x h in
          elim (cases_eq (slice_index bucket x) f) [
            | inl same ↦
                let len_x : slice_index (set lens f l) (slice_index bucket x) ≡ l = ap (slice_index (set lens f l)) same ∙ len_new in
                let len_old : slice_index lens (slice_index bucket x) ≡ l + 1 = ap (slice_index lens) same ∙ d.len in
                let apart : slice_index places x ≢ l = λ q. other (sym (s.here x h) ∙ (ap (λ g. number_at rows g (slice_index places x)) same ∙ (ap (number_at rows f) q ∙ d.top))) in
                omega (arith, at_x, low, len_x, len_old, apart)
            | inr else ↦
                let len_x : slice_index (set lens f l) (slice_index bucket x) ≡ slice_index lens (slice_index bucket x) = get_or-set_other lens f (slice_index bucket x) l 0 else in
                omega (arith, at_x, low, len_x)
          ]
    ]

stays_here : (rows : List (List ℕ)) (lens places bucket : List ℕ) (e f a l y x : ℕ) → ArePositions rows lens places bucket → Leaving rows lens places bucket e f a l y → x < length bucket → x ≢ e
    → number_at (rows_with rows f a y) (slice_index bucket x) (slice_index (set places y a) x) ≡ x
stays_here rows lens places bucket e f a l y x s d h n =
    let yp : y < length places = subst (λ k. y < k) (sym s.placed) d.top_in in
    let in_row : a < length (get_or rows f []) = omega (arith, d.low, d.fits) in
    elim (cases_eq x y) [
      | inl same ↦
          let at_new : slice_index (set places y a) x ≡ a = ap (slice_index (set places y a)) same ∙ get_or-set_same places y a 0 yp in
          let bucket_x : slice_index bucket x ≡ f = ap (slice_index bucket) same ∙ d.top_here in
          ap (λ g. number_at (rows_with rows f a y) g (slice_index (set places y a) x)) bucket_x ∙ (ap (number_at (rows_with rows f a y) f) at_new ∙ (position_same rows f a y d.row in_row ∙ sym same))
      | inr other ↦
          let at_x : slice_index (set places y a) x ≡ slice_index places x = get_or-set_other places y x a 0 other in
          let position_x : number_at rows (slice_index bucket x) (slice_index places x) ≡ x = s.here x h in
          ap (number_at (rows_with rows f a y) (slice_index bucket x)) at_x ∙ elim (cases_eq (slice_index bucket x) f) [
            | inl same ↦
                let apart : slice_index places x ≢ a = λ q. n (sym position_x ∙ (ap (λ g. number_at rows g (slice_index places x)) same ∙ (ap (number_at rows f) q ∙ d.in_position))) in
                ap (λ g. number_at (rows_with rows f a y) g (slice_index places x)) same
                ∙ (position_beside rows f a (slice_index places x) y d.row apart ∙ (ap (λ g. number_at rows g (slice_index places x)) (sym same) ∙ position_x))
            | inr else ↦ position_elsewhere rows f (slice_index bucket x) a (slice_index places x) y else ∙ position_x
          ]
    ]

-- the number at a position that is still occupied
record Found (rows : List (List ℕ)) (places bucket : List ℕ) (e s i : ℕ) : Type 0 where
  who : ℕ
  is : number_at rows s i ≡ who
  known : who < length bucket
  other : who ≢ e
  there : slice_index bucket who ≡ s
  back : slice_index places who ≡ i

found_moved : (rows : List (List ℕ)) (lens places bucket : List ℕ) (e f a l y s i : ℕ) → ArePositions rows lens places bucket → Leaving rows lens places bucket e f a l y
    → s ≡ f → i ≡ a → i < l → Found (rows_with rows f a y) (set places y a) bucket e s i
found_moved rows lens places bucket e f a l y s i is d same at lt =
    let yp : y < length places = subst (λ k. y < k) (sym is.placed) d.top_in in
    let in_row : a < length (get_or rows f []) = omega (arith, d.low, d.fits) in
    record {
      who = y;
      is = ap (λ g. number_at (rows_with rows f a y) g i) same ∙ (ap (number_at (rows_with rows f a y) f) at ∙ position_same rows f a y d.row in_row);
      known = d.top_in;
      other = λ q. let p : l ≡ a = sym d.top_place ∙ (ap (slice_index places) q ∙ d.place) in omega (arith, p, at, lt);
      there = d.top_here ∙ sym same;
      back = get_or-set_same places y a 0 yp ∙ sym at;
    }

found_beside : (rows : List (List ℕ)) (lens places bucket : List ℕ) (e f a l y s i : ℕ) → ArePositions rows lens places bucket → Leaving rows lens places bucket e f a l y
    → s ≡ f → i ≢ a → i < l → Found (rows_with rows f a y) (set places y a) bucket e s i
found_beside rows lens places bucket e f a l y s i is d same at lt =
    let old : i < slice_index lens f = omega (arith, lt, d.len) in
    let back : slice_index places (number_at rows f i) ≡ i = is.back f i old in
    record {
      who = number_at rows f i;
      is = ap (λ g. number_at (rows_with rows f a y) g i) same ∙ position_beside rows f a i y d.row at;
      known = is.known f i old;
      other = λ q. at (sym back ∙ (ap (slice_index places) q ∙ d.place));
      there = is.there f i old ∙ sym same;
      back = get_or-set_other places y (number_at rows f i) a 0 (λ q. let p : i ≡ l = sym back ∙ (ap (slice_index places) q ∙ d.top_place) in omega (arith, p, lt)) ∙ back;
    }

found_elsewhere : (rows : List (List ℕ)) (lens places bucket : List ℕ) (e f a l y s i : ℕ) → ArePositions rows lens places bucket → Leaving rows lens places bucket e f a l y
    → s ≢ f → i < slice_index lens s → Found (rows_with rows f a y) (set places y a) bucket e s i
found_elsewhere rows lens places bucket e f a l y s i is d apart old =
    let there : slice_index bucket (number_at rows s i) ≡ s = is.there s i old in
    record {
      who = number_at rows s i;
      is = position_elsewhere rows f s a i y apart;
      known = is.known s i old;
      other = λ q. apart (sym there ∙ (ap (slice_index bucket) q ∙ d.in_bucket));
      there = there;
      back = get_or-set_other places y (number_at rows s i) a 0 (λ q. apart (sym there ∙ (ap (slice_index bucket) q ∙ d.top_here))) ∙ is.back s i old;
    }

found : (rows : List (List ℕ)) (lens places bucket : List ℕ) (e f a l y s i : ℕ) → ArePositions rows lens places bucket → Leaving rows lens places bucket e f a l y
    → i < slice_index (set lens f l) s → Found (rows_with rows f a y) (set places y a) bucket e s i
found rows lens places bucket e f a l y s i is d lt =
    let fl : f < length lens = subst (λ k. f < k) (sym is.counted) d.row in
    elim (cases_eq s f) [
      | inl same ↦
          let len : slice_index (set lens f l) s ≡ l = ap (slice_index (set lens f l)) same ∙ get_or-set_same lens f l 0 fl in
          let below : i < l = omega (arith, lt, len) in
          elim (cases_eq i a) [
            | inl at ↦ found_moved rows lens places bucket e f a l y s i is d same at below
            | inr at ↦ found_beside rows lens places bucket e f a l y s i is d same at below
          ]
      | inr apart ↦
          let len : slice_index (set lens f l) s ≡ slice_index lens s = get_or-set_other lens f s l 0 apart in
          found_elsewhere rows lens places bucket e f a l y s i is d apart (omega (arith, lt, len))
    ]

len_le : (rows : List (List ℕ)) (lens places bucket : List ℕ) (e f a l y s : ℕ) → ArePositions rows lens places bucket → Leaving rows lens places bucket e f a l y
    → slice_index (set lens f l) s ≤ slice_index lens s
len_le rows lens places bucket e f a l y s is d =
    let fl : f < length lens = subst (λ k. f < k) (sym is.counted) d.row in
    elim (cases_eq s f) [
      | inl same ↦
          let new : slice_index (set lens f l) s ≡ l = ap (slice_index (set lens f l)) same ∙ get_or-set_same lens f l 0 fl in
          let old : slice_index lens s ≡ l + 1 = ap (slice_index lens) same ∙ d.len in
          omega (arith, new, old)
      | inr apart ↦
          let new : slice_index (set lens f l) s ≡ slice_index lens s = get_or-set_other lens f s l 0 apart in
          omega (arith, new)
    ]

but : (rows : List (List ℕ)) (lens places bucket : List ℕ) (e f a l y : ℕ) → ArePositions rows lens places bucket → Leaving rows lens places bucket e f a l y
    → ArePositionsBut e (rows_with rows f a y) (set lens f l) (set places y a) bucket
but rows lens places bucket e f a l y is d =
    let fl : f < length lens = subst (λ k. f < k) (sym is.counted) d.row in
    let new : slice_index (set lens f l) f ≡ l = get_or-set_same lens f l 0 fl in
    let many : slice_index lens f ≡ bucket_len f bucket = is.many f d.row in
    record {
      placed = length-set places y a ∙ is.placed;
      counted = length-set lens f l ∙ (is.counted ∙ sym (length-set rows f (set (get_or rows f []) a y)));
      small = is.small;
      inside = λ x h. subst (λ k. slice_index bucket x < k) (sym (length-set rows f (set (get_or rows f []) a y))) (is.inside x h);
      low = λ x h n. stays_low rows lens places bucket e f a l y x is d h n;
      here = λ x h n. stays_here rows lens places bucket e f a l y x is d h n;
      known = λ s i h. let w = found rows lens places bucket e f a l y s i is d h in subst (λ v. v < length bucket) (sym w.is) w.known;
      other = λ s i h. let w = found rows lens places bucket e f a l y s i is d h in subst (λ v. v ≢ e) (sym w.is) w.other;
      there = λ s i h. let w = found rows lens places bucket e f a l y s i is d h in subst (λ v. slice_index bucket v ≡ s) (sym w.is) w.there;
      back = λ s i h. let w = found rows lens places bucket e f a l y s i is d h in subst (λ v. slice_index (set places y a) v ≡ i) (sym w.is) w.back;
      many = λ s h n. get_or-set_other lens f s l 0 (λ q. n (q ∙ sym d.in_bucket)) ∙ is.many s (subst (λ k. s < k) (length-set rows f (set (get_or rows f []) a y)) h);
      fewer = subst (λ g. slice_index (set lens f l) g + 1 ≡ bucket_len g bucket) (sym d.in_bucket) (omega (arith, new, many, d.len));
      fits = λ s. let le : slice_index (set lens f l) s ≤ slice_index lens s = len_le rows lens places bucket e f a l y s is d in
          let old : slice_index lens s ≤ length (get_or rows s []) = is.fits s in
          let capacity : length (get_or (rows_with rows f a y) s []) ≡ length (get_or rows s []) = capacity_kept rows f a y s in
          omega (arith, le, old, capacity);
    }

pub removes : (rows : List (List ℕ)) (lens places bucket : List ℕ) (e : ℕ) → ArePositions rows lens places bucket → e < length bucket
    → ArePositionsBut e (rows_with rows (slice_index bucket e) (slice_index places e) (number_at rows (slice_index bucket e) (slice_index lens (slice_index bucket e) - 1)))
    (set lens (slice_index bucket e) (slice_index lens (slice_index bucket e) - 1))
    (set places (number_at rows (slice_index bucket e) (slice_index lens (slice_index bucket e) - 1)) (slice_index places e)) bucket
removes rows lens places bucket e is h =
    but rows lens places bucket e (slice_index bucket e) (slice_index places e) (slice_index lens (slice_index bucket e) - 1) (number_at rows (slice_index bucket e) (slice_index lens (slice_index bucket e) - 1)) is (removing rows lens places bucket e is h)

-- the same, by the values that the code read
pub removes_at : (rows : List (List ℕ)) (lens places bucket : List ℕ) (e f a k y : ℕ) (r : List ℕ) → ArePositions rows lens places bucket → e < length bucket
    → slice_index bucket e ≡ f → slice_index places e ≡ a → slice_index lens f ≡ k → number_at rows f (k - 1) ≡ y → set (get_or rows f []) a y ≡ r
    → ArePositionsBut e (set rows f r) (set lens f (k - 1)) (set places y a) bucket
removes_at rows lens places bucket e f a k y r is h ef ea ek ey er =
    let g = slice_index bucket e in
    let b = slice_index places e in
    let m = slice_index lens g in
    let first = removes rows lens places bucket e is h in
    let as_f : ArePositionsBut e (rows_with rows f b (number_at rows f (slice_index lens f - 1))) (set lens f (slice_index lens f - 1)) (set places (number_at rows f (slice_index lens f - 1)) b) bucket =
    subst (λ v. ArePositionsBut e (rows_with rows v b (number_at rows v (slice_index lens v - 1))) (set lens v (slice_index lens v - 1)) (set places (number_at rows v (slice_index lens v - 1)) b) bucket) ef first in
    let as_a : ArePositionsBut e (rows_with rows f a (number_at rows f (slice_index lens f - 1))) (set lens f (slice_index lens f - 1)) (set places (number_at rows f (slice_index lens f - 1)) a) bucket =
    subst (λ v. ArePositionsBut e (rows_with rows f v (number_at rows f (slice_index lens f - 1))) (set lens f (slice_index lens f - 1)) (set places (number_at rows f (slice_index lens f - 1)) v) bucket) ea as_f in
    let as_k : ArePositionsBut e (rows_with rows f a (number_at rows f (k - 1))) (set lens f (k - 1)) (set places (number_at rows f (k - 1)) a) bucket =
    subst (λ v. ArePositionsBut e (rows_with rows f a (number_at rows f (v - 1))) (set lens f (v - 1)) (set places (number_at rows f (v - 1)) a) bucket) ek as_a in
    let as_y : ArePositionsBut e (rows_with rows f a y) (set lens f (k - 1)) (set places y a) bucket =
    subst (λ v. ArePositionsBut e (rows_with rows f a v) (set lens f (k - 1)) (set places v a) bucket) ey as_k in
    subst (λ v. ArePositionsBut e (set rows f v) (set lens f (k - 1)) (set places y a) bucket) er as_y
