-- The values of a function for the first numbers.
use Rattle.std.specs.Prelude.{ℕ, zero, suc, List, [], ◌∷◌, ◌++◌}

abbrev pub first_of : {A : Type 0} → (ℕ → A) → ℕ → List A
first_of f zero = []
first_of f (suc n) = first_of f n ++ f n ∷ []
