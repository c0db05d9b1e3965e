-- A set of numbers, as the ascending list of its members.
use Rattle.std.specs.Prelude.{ℕ, Bool, List, [], ◌∷◌, nat_lt, ◌==◌, if◌then◌else◌}
use Rattle.std.specs.List.{list_any}

abbrev pub is_member : ℕ → List ℕ → Bool
is_member n ms = list_any (λ m. m == n) ms

-- the set with one more number
abbrev pub with_member : ℕ → List ℕ → List ℕ
with_member n [] = n ∷ []
with_member n (m ∷ ms) = if nat_lt n m then n ∷ m ∷ ms else if n == m then m ∷ ms else m ∷ with_member n ms
