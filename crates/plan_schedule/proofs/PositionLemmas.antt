-- A number is removed from its position and added at another one.
use Rattle.std.proofs.Common.{◌≡◌, ◌≢◌, ℕ, zero, suc, ◌+◌, ◌<◌, ◌≤◌, List, [], ◌∷◌, length, refl, sym, ◌∙◌, ap, arith, get_or, set, inl, inr, length-set, get_or-set_same, get_or-set_other, map, cond, eqb, Bool}
use Rattle.std.specs.Prelude.{slice_index}
use Rattle.std.proofs.lemmas.Bool.{eq-eqb}
use Rattle.std.proofs.lemmas.Bool.Decides.{eqb_tells}
use Rattle.std.proofs.lemmas.List.{map-set, set-get_or}
use Rattle.std.proofs.lemmas.List.Sums.{count_by-le-length, sum_by-set}
use Rattle.plan_schedule.specs.BucketContents.{bucket_len}
use Rattle.plan_schedule.specs.Positions.{number_at}

-- a bucket with one position changed
abbrev pub rows_with : List (List ℕ) → ℕ → ℕ → ℕ → List (List ℕ)
rows_with rows s i y = set rows s (set (get_or rows s []) i y)

pub position_same : (rows : List (List ℕ)) (s i y : ℕ) → s < length rows → i < length (get_or rows s []) → number_at (rows_with rows s i y) s i ≡ y
position_same rows s i y h g =
    ap (λ (r : List ℕ). slice_index r i) (get_or-set_same rows s (set (get_or rows s []) i y) [] h) ∙ get_or-set_same (get_or rows s []) i y 0 g

pub position_beside : (rows : List (List ℕ)) (s i j y : ℕ) → s < length rows → j ≢ i → number_at (rows_with rows s i y) s j ≡ number_at rows s j
position_beside rows s i j y h n =
    ap (λ (r : List ℕ). slice_index r j) (get_or-set_same rows s (set (get_or rows s []) i y) [] h) ∙ get_or-set_other (get_or rows s []) i j y 0 n

pub position_elsewhere : (rows : List (List ℕ)) (s t i j y : ℕ) → t ≢ s → number_at (rows_with rows s i y) t j ≡ number_at rows t j
position_elsewhere rows s t i j y n = ap (λ (r : List ℕ). slice_index r j) (get_or-set_other rows s t (set (get_or rows s []) i y) [] n)

pub capacities_kept : (rows : List (List ℕ)) (s i y : ℕ) → map length (rows_with rows s i y) ≡ map length rows
capacities_kept rows s i y =
    map-set length rows s (set (get_or rows s []) i y) ∙ (ap (λ n. set (map length rows) s n) (length-set (get_or rows s []) i y)
    ∙ (sym (map-set length rows s (get_or rows s [])) ∙ ap (map length) (set-get_or rows s [])))

pub capacity_kept : (rows : List (List ℕ)) (s i y t : ℕ) → length (get_or (rows_with rows s i y) t []) ≡ length (get_or rows t [])
capacity_kept [] s i y t = refl
capacity_kept (r ∷ rows) zero i y zero = length-set r i y
capacity_kept (r ∷ rows) zero i y (suc t) = refl
capacity_kept (r ∷ rows) (suc s) i y zero = refl
capacity_kept (r ∷ rows) (suc s) i y (suc t) = capacity_kept rows s i y t

-- the number of items in a bucket after a number has moved
pub bucket_len_after : (bucket : List ℕ) (e s t : ℕ) → e < length bucket → bucket_len t (set bucket e s) + cond (eqb (slice_index bucket e) t) 1 0 ≡ bucket_len t bucket + cond (eqb s t) 1 0
bucket_len_after bucket e s t h = sum_by-set (λ x. cond (eqb x t) 1 0) bucket e s 0 h

abbrev pub one : Bool → ℕ
one b = cond b 1 0

one_if : (a b : ℕ) → a ≡ b → one (eqb a b) ≡ 1
one_if a b e = ap one (eq-eqb a b e)

none_if : (a b : ℕ) → a ≢ b → one (eqb a b) ≡ 0
none_if a b n = elim (eqb_tells a b) [ inl e ↦ absurd (n e.1) | inr e ↦ ap one e.0 ]

pub bucket_len_new : (bucket : List ℕ) (e s : ℕ) → e < length bucket → slice_index bucket e ≢ s → bucket_len s (set bucket e s) ≡ bucket_len s bucket + 1
bucket_len_new bucket e s h n =
    omega (arith, bucket_len_after bucket e s s h, none_if (slice_index bucket e) s n, one_if s s refl)

pub bucket_len_old : (bucket : List ℕ) (e s : ℕ) → e < length bucket → slice_index bucket e ≢ s → bucket_len (slice_index bucket e) (set bucket e s) + 1 ≡ bucket_len (slice_index bucket e) bucket
bucket_len_old bucket e s h n =
    omega (arith, bucket_len_after bucket e s (slice_index bucket e) h, one_if (slice_index bucket e) (slice_index bucket e) refl, none_if s (slice_index bucket e) (λ q. n (sym q)))

pub bucket_len_else : (bucket : List ℕ) (e s t : ℕ) → e < length bucket → slice_index bucket e ≢ t → s ≢ t → bucket_len t (set bucket e s) ≡ bucket_len t bucket
bucket_len_else bucket e s t h n m =
    omega (arith, bucket_len_after bucket e s t h, none_if (slice_index bucket e) t n, none_if s t m)

-- a number that isn't in a bucket isn't counted there
pub bucket_len_less : (bucket : List ℕ) (e s : ℕ) → e < length bucket → slice_index bucket e ≢ s → bucket_len s bucket + 1 ≤ length bucket
bucket_len_less bucket e s h n =
    let more : bucket_len s (set bucket e s) ≡ bucket_len s bucket + 1 = bucket_len_new bucket e s h n in
    let le : bucket_len s (set bucket e s) ≤ length (set bucket e s) = count_by-le-length (λ t. eqb t s) (set bucket e s) in
    omega (arith, more, le, length-set bucket e s)
