use Rattle.std.proofs.Common.{◌≡◌, [], ◌∷◌}
use Rattle.std.specs.Prelude.{if◌then◌else◌}
use Rattle.plan_tools.specs.Listings.{of_first}
use Rattle.plan_tools.specs.Cleaning.{makes_counted}
use Rattle.plan_tools.proofs.cleaning.edges_of_paths.Given as goal

-- the edges so far
abbrev pub invariant-loop-edge : goal.invariant-loop-edge
invariant-loop-edge l = l.edges.items ≡ of_first (λ n. if makes_counted l.manifest l.graph l.counted n then n ∷ [] else []) l.edge
