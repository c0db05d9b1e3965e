-- Lists of items without repetitions: an item has the number of its first occurrence.
use Rattle.std.specs.Prelude.{ℕ, zero, suc, Bool, List, [], ◌∷◌, ◌++◌, if◌then◌else◌}
use Rattle.std.specs.List.{list_any}

-- `same` tests whether two items are equal
abbrev pub has : {A : Type 0} → (same : A → A → Bool) → List A → A → Bool
has same xs x = list_any (same x) xs

-- appends an item, unless it is in the list
abbrev pub with_item : {A : Type 0} → (same : A → A → Bool) → List A → A → List A
with_item same xs x = if has same xs x then xs else xs ++ x ∷ []

abbrev pub with_items : {A : Type 0} → (same : A → A → Bool) → List A → List A → List A
with_items same xs [] = xs
with_items same xs (y ∷ ys) = with_items same (with_item same xs y) ys

-- the items without repetitions, in the order of first occurrence
abbrev pub once : {A : Type 0} → (same : A → A → Bool) → List A → List A
once same xs = with_items same [] xs

-- the index of an item, or the length if it isn't in the list
abbrev pub number : {A : Type 0} → (same : A → A → Bool) → A → List A → ℕ
number same x [] = zero
number same x (y ∷ ys) = if same x y then zero else suc (number same x ys)
