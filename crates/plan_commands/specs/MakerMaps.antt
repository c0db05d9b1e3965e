-- Maps from the paths of files to their makers.
use Rattle.std.specs.Prelude.{◌≡◌, ℕ, List, Option, bytes_eq, drop}
use Rattle.std.specs.Borrow.{Bor}
use Rattle.std.specs.HashMap.{HashMap, get_by}
use Rattle.plan_image.specs.declared.image.Parts.{Parts}
use Rattle.plan_image.specs.Makers.{first_maker}

-- The edge that a map has for a path.
abbrev pub maker_in : {S : Type 0} → HashMap (Bor (List ℕ)) ℕ S → List ℕ → Option ℕ
maker_in makers path = get_by (λ k. bytes_eq path k.now) makers

-- For each path, the map has the first edge that makes it, among the edges with numbers not less than `from`.
abbrev pub AreMakers : {S : Type 0} → Parts → ℕ → HashMap (Bor (List ℕ)) ℕ S → Type 0
AreMakers p from makers = (path : List ℕ) → maker_in makers path ≡ first_maker p path from (drop from p.edges)
