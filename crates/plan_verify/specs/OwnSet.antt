-- Sets of an edge's own slots.
use Rattle.std.specs.Prelude.{◌≡◌, ℕ, true, List}
use Rattle.std.specs.List.{AllByRecursion}
use Rattle.plan_image.specs.declared.image.Parts.{Parts}
use Rattle.plan_image.specs.Spelling.{AscendsFrom}
use Rattle.plan_verify.specs.Tables.{owns}

-- the numbers ascend and are an edge's own slots
pub record IsOwnSet (p : Parts) (e : ℕ) (set : List ℕ) : Type 0 where
  pub ascends : AscendsFrom 0 set
  pub own : AllByRecursion (λ s. owns p e s ≡ true) set
