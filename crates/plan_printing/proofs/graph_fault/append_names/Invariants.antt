use Rattle.std.proofs.Common.{◌≡◌, ◌++◌, codes, flat_map, take}
use Rattle.plan_printing.specs.Faults as defined
use Rattle.plan_printing.proofs.graph_fault.append_names.Given as goal

abbrev pub invariant-loop-number : goal.invariant-loop-number
invariant-loop-number l = l.text.items ≡ l.fn.text.items ++ flat_map (λ n. codes " -> " ++ defined.edge_name_at l.edges n) (take l.number-index l.numbers)
