-- A filter item by item. Serves src/roots.rt.
use Rattle.std.proofs.Common.{◌≡◌, ℕ, ◌+◌, ◌<◌, Bool, true, false, List, [], ◌∷◌, ◌++◌, length, refl, drop, get_or}
use Rattle.std.specs.Prelude.{cond, filter}
use Rattle.plan_tools.proofs.WritingLemmas.{one_more_of}

-- what passes of a list is what passes of its first item, and then of the others
pub filter_parts : (test : ℕ → Bool) (y : ℕ) (ys : List ℕ) → filter test (y ∷ ys) ≡ filter test (y ∷ []) ++ filter test ys
filter_parts test y ys = elim (test y) as (λ b. cond b (y ∷ filter test ys) (filter test ys) ≡ cond b (y ∷ []) [] ++ filter test ys) [
  | true ↦ refl
  | false ↦ refl
]

-- one item more was filtered
pub one_filtered : (test : ℕ → Bool) (xs : List ℕ) (i x : ℕ) (done whole : List ℕ) → i < length xs → x ≡ get_or xs i 0
    → done ++ filter test (drop i xs) ≡ whole ++ filter test xs → (done ++ filter test (x ∷ [])) ++ filter test (drop (i + 1) xs) ≡ whole ++ filter test xs
one_filtered test xs i x done whole lt is so_far =
    one_more_of (λ y. filter test (y ∷ [])) (filter test) (filter_parts test) xs i x 0 done (whole ++ filter test xs) lt is so_far
