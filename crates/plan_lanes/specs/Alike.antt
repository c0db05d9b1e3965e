-- Lists that begin alike.
use Rattle.std.specs.Prelude.{◌≡◌, ◌<◌, ℕ, List, [], get_or, length}

-- both lists have the same length and the same first n items
pub record AreAlike (n : ℕ) (xs ys : List (List ℕ)) : Type 0 where
  pub long : length xs ≡ length ys
  pub same : (k : ℕ) → k < n → get_or xs k [] ≡ get_or ys k []
