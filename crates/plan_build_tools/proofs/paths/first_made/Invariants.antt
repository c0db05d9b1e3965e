use Rattle.std.proofs.Common.{◌≡◌, None}
use Rattle.plan_build_tools.specs.Naming.{first_below, made_of}
use Rattle.plan_build_tools.proofs.paths.first_made.Given as goal

-- no edge so far takes the path
abbrev pub invariant-loop-edge : goal.invariant-loop-edge
invariant-loop-edge l = first_below l.edge (made_of l.graph l.path) ≡ None
