use Rattle.std.proofs.Common.{◌≡◌, ◌++◌, [], drop, get_or}
use Rattle.std.specs.Prelude.{filter, not}
use Rattle.plan_graph.specs.Files.{producer_at}
use Rattle.plan_tools.specs.Inputs.{is_edge}
use Rattle.plan_tools.specs.Tree.{lines_left, trees_of}
use Rattle.plan_tools.proofs.tree.add_inputs.Given as goal

-- the inputs from this one on were appended
abbrev pub invariant-loop-number : goal.invariant-loop-number
invariant-loop-number l =
    lines_left l.graph l.stack.items
    ≡ trees_of l.graph l.below l.indent (filter (λ i. not (is_edge l.edge (producer_at l.graph.files i))) (drop l.number (get_or l.graph.inputs l.edge []))) ++ lines_left l.graph l.fn.stack.items
