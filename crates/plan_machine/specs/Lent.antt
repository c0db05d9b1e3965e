-- Paths of an image, by the numbers of its files.
use Rattle.std.specs.Prelude.{ℕ, List, [], map, get_or}

abbrev pub paths_by : List (List ℕ) → List ℕ → List (List ℕ)
paths_by files numbers = map (λ f. get_or files f []) numbers
