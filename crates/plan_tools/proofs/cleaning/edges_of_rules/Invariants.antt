use Rattle.std.proofs.Common.{◌≡◌, [], ◌∷◌, map}
use Rattle.std.specs.Prelude.{if◌then◌else◌}
use Rattle.plan_tools.specs.Listings.{of_first}
use Rattle.plan_tools.specs.Cleaning.{has_rule}
use Rattle.plan_tools.proofs.cleaning.edges_of_rules.Given as goal

-- the edges so far
abbrev pub invariant-loop-edge : goal.invariant-loop-edge
invariant-loop-edge l = l.edges.items ≡ of_first (λ n. if has_rule l.rules (map (λ m. m.now) l.names) l.manifest.edges n then n ∷ [] else []) l.edge
