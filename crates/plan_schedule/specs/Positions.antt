-- The positions of buckets, and the positions of numbers in them.
use Rattle.std.specs.Prelude.{◌≡◌, ◌≢◌, ◌<◌, ◌≤◌, ◌+◌, ◌^◌, ℕ, List, [], get_or, length, slice_index}
use Rattle.plan_schedule.specs.BucketContents.{bucket_len}

-- the number at a position
abbrev pub number_at : List (List ℕ) → ℕ → ℕ → ℕ
number_at rows s i = slice_index (get_or rows s []) i

-- each number is at a position of its bucket, and no other number is there
pub record ArePositions (rows : List (List ℕ)) (lens places bucket : List ℕ) : Type 0 where
  pub placed : length places ≡ length bucket
  pub counted : length lens ≡ length rows
  pub small : length bucket < 2 ^ 32
  pub inside : (e : ℕ) → e < length bucket → slice_index bucket e < length rows
  pub low : (e : ℕ) → e < length bucket → slice_index places e < slice_index lens (slice_index bucket e)
  pub here : (e : ℕ) → e < length bucket → number_at rows (slice_index bucket e) (slice_index places e) ≡ e
  pub known : (s i : ℕ) → i < slice_index lens s → number_at rows s i < length bucket
  pub there : (s i : ℕ) → i < slice_index lens s → slice_index bucket (number_at rows s i) ≡ s
  pub back : (s i : ℕ) → i < slice_index lens s → slice_index places (number_at rows s i) ≡ i
  pub many : (s : ℕ) → s < length rows → slice_index lens s ≡ bucket_len s bucket
  pub fits : (s : ℕ) → slice_index lens s ≤ length (get_or rows s [])

-- the same, except that one number has no position
pub record ArePositionsBut (one : ℕ) (rows : List (List ℕ)) (lens places bucket : List ℕ) : Type 0 where
  pub placed : length places ≡ length bucket
  pub counted : length lens ≡ length rows
  pub small : length bucket < 2 ^ 32
  pub inside : (e : ℕ) → e < length bucket → slice_index bucket e < length rows
  pub low : (e : ℕ) → e < length bucket → e ≢ one → slice_index places e < slice_index lens (slice_index bucket e)
  pub here : (e : ℕ) → e < length bucket → e ≢ one → number_at rows (slice_index bucket e) (slice_index places e) ≡ e
  pub known : (s i : ℕ) → i < slice_index lens s → number_at rows s i < length bucket
  pub other : (s i : ℕ) → i < slice_index lens s → number_at rows s i ≢ one
  pub there : (s i : ℕ) → i < slice_index lens s → slice_index bucket (number_at rows s i) ≡ s
  pub back : (s i : ℕ) → i < slice_index lens s → slice_index places (number_at rows s i) ≡ i
  pub many : (s : ℕ) → s < length rows → s ≢ slice_index bucket one → slice_index lens s ≡ bucket_len s bucket
  pub fewer : slice_index lens (slice_index bucket one) + 1 ≡ bucket_len (slice_index bucket one) bucket
  pub fits : (s : ℕ) → slice_index lens s ≤ length (get_or rows s [])
