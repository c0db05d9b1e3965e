use Rattle.std.proofs.Common.{◌≡◌, map, get_or, []}
use Rattle.plan_tools.specs.Inputs.{inputs_at}
use Rattle.plan_tools.specs.Listings.{of_first}
use Rattle.plan_tools.specs.CompilationDatabase.{if_used, named_or_all}
use Rattle.plan_tools.proofs.compilation_database.chosen_edges.Given as goal

-- the edges so far were chosen
abbrev pub invariant-loop-edge : goal.invariant-loop-edge
invariant-loop-edge l =
    l.chosen.items ≡ of_first (λ e. if_used (inputs_at l.graph e) (named_or_all (map (λ n. n.now) l.names) (get_or l.rules e []) e)) l.edge
