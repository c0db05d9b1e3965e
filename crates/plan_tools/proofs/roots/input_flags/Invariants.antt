use Rattle.std.proofs.Common.{◌≡◌, length}
use Rattle.plan_tools.specs.Inputs.{inputs_at}
use Rattle.plan_tools.specs.Listings.{of_first}
use Rattle.plan_tools.specs.Roots.{AreFlagsOf}
use Rattle.plan_tools.proofs.roots.input_flags.Given as goal

-- the inputs of the edges so far have their flags set
abbrev pub invariant-loop-edge : goal.invariant-loop-edge
invariant-loop-edge l = (length l.flags.items ≡ length l.graph.files) × AreFlagsOf (of_first (inputs_at l.graph) l.edge) l.flags.items
