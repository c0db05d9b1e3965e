use Rattle.std.proofs.Common.{◌≡◌, ◌++◌, List, ℕ, drop, length}
use Rattle.std.specs.Prelude.{filter, not}
use Rattle.plan_graph.specs.Files.{producer_at}
use Rattle.plan_tools.specs.Inputs.{is_edge}
use Rattle.plan_tools.specs.Roots.{AreFlagsOf}
use Rattle.plan_tools.proofs.roots.flag_inputs.Given as goal

-- the inputs so far have their flags set
abbrev pub invariant-loop-input : goal.invariant-loop-input
invariant-loop-input l =
    (length l.flags ≡ length l.fn.flags)
    × ((paths : List ℕ) → AreFlagsOf paths l.fn.flags
    → (done : List ℕ) × (done ++ filter (λ i. not (is_edge l.edge (producer_at l.graph.files i))) (drop l.input-index l.input-items)
    ≡ paths ++ filter (λ i. not (is_edge l.edge (producer_at l.graph.files i))) l.input-items) × AreFlagsOf done l.flags)
