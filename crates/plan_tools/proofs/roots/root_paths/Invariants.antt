use Rattle.std.proofs.Common.{◌≡◌, [], get_or}
use Rattle.std.specs.Prelude.{filter}
use Rattle.plan_tools.specs.Listings.{of_first}
use Rattle.plan_tools.specs.Roots.{is_last}
use Rattle.plan_tools.proofs.roots.root_paths.Given as goal

-- the roots of the edges so far
abbrev pub invariant-loop-edge : goal.invariant-loop-edge
invariant-loop-edge l = l.roots.items ≡ of_first (λ e. filter (is_last l.graph) (get_or l.graph.outputs e [])) l.edge
