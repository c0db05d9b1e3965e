use Rattle.std.proofs.Common.{◌≡◌, drop}
use Rattle.std.specs.Prelude.{filter, not}
use Rattle.plan_graph.specs.Files.{producer_at}
use Rattle.plan_tools.specs.Inputs.{inputs_at, is_edge}
use Rattle.plan_tools.proofs.compilation_database.first_input.Given as goal

-- the edge makes the inputs so far
abbrev pub invariant-loop-input : goal.invariant-loop-input
invariant-loop-input l = filter (λ i. not (is_edge l.edge (producer_at l.graph.files i))) (drop l.input-index l.input-items) ≡ inputs_at l.graph l.edge
