-- The record's entry for an output.
use Rattle.std.specs.Prelude.{ℕ, List}

pub record Recording : Type 0 where
  pub command : List ℕ
  -- the greatest stamp that its command read
  pub basis : ℕ
  -- its dependencies
  pub paths : List (List ℕ)
