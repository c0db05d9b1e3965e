-- Lists that begin alike.
use Rattle.std.proofs.Common.{◌≡◌, ◌≢◌, ◌+◌, ◌<◌, ◌⊎◌, ℕ, List, [], length, ap, inl, inr, arith}
use Rattle.std.specs.Prelude.{get_or}
use Rattle.std.proofs.lemmas.Bool.{cases_order}
use Rattle.std.proofs.lemmas.List.{ext_get_or}
use Rattle.plan_lanes.specs.Alike.{AreAlike}

pub none_alike : (xs ys : List (List ℕ)) → length xs ≡ length ys → AreAlike 0 xs ys
none_alike xs ys long = record { long = long; same = λ k lt. absurd (omega (arith, lt)) }

pub one_more_alike : (n : ℕ) (xs ys : List (List ℕ)) → AreAlike n xs ys → get_or xs n [] ≡ get_or ys n [] → AreAlike (n + 1) xs ys
one_more_alike n xs ys alike here = record { long = alike.long; same = λ k lt. by k lt (cases_order k n) }
  where
    by : (k : ℕ) → k < n + 1 → (k ≡ n) ⊎ ((k < n) ⊎ (n < k)) → get_or xs k [] ≡ get_or ys k []
    by k lt (inl is) = rw is here
    by k lt (inr (inl below)) = alike.same k below
    by k lt (inr (inr above)) = absurd (omega (arith, lt, above))

-- alike to the end
pub all_alike : (xs ys : List (List ℕ)) → AreAlike (length xs) xs ys → xs ≡ ys
all_alike xs ys alike = ext_get_or [] xs ys alike.long alike.same

-- apart in one
pub one_apart : (n : ℕ) (xs ys : List (List ℕ)) → get_or xs n [] ≢ get_or ys n [] → xs ≢ ys
one_apart n xs ys apart same = apart (ap (λ (l : List (List ℕ)). get_or l n []) same)

-- not as long
pub lengths_apart : (xs ys : List (List ℕ)) → length xs ≢ length ys → xs ≢ ys
lengths_apart xs ys apart same = apart (ap length same)
