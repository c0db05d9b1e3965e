-- The contents of buckets.
use Rattle.std.specs.Prelude.{◌≡◌, ◌==◌, ◌<◌, ◌⊎◌, ℕ, List, count_by, slice_index}

-- for each number its bucket, and for each bucket its capacity
pub record BucketContents : Type 0 where
  pub bucket : List ℕ
  pub capacity : List ℕ

-- the number of items in a bucket
abbrev pub bucket_len : ℕ → List ℕ → ℕ
bucket_len s bucket = count_by (λ t. t == s) bucket

-- a number is in this bucket, or the bucket has room for one more
abbrev pub HasRoom : BucketContents → ℕ → ℕ → Type 0
HasRoom f e s = (slice_index f.bucket e ≡ s) ⊎ (bucket_len s f.bucket < slice_index f.capacity s)
