use Rattle.std.proofs.Common.{◌≡◌, [], ◌∷◌, slice_get}
use Rattle.std.specs.Prelude.{if◌then◌else◌}
use Rattle.plan_tools.specs.Listings.{of_first}
use Rattle.plan_tools.specs.Cleaning.{holds_of, is_cleaned}
use Rattle.plan_tools.proofs.cleaning.command_edges.Given as goal

-- the edges so far
abbrev pub invariant-loop-edge : goal.invariant-loop-edge
invariant-loop-edge l = l.edges.items ≡ of_first (λ n. if holds_of (is_cleaned l.generators) (slice_get l.manifest.edges n) then n ∷ [] else []) l.edge
