use Rattle.std.proofs.Common.{◌≡◌, ◌++◌, drop}
use Rattle.plan_tools.specs.Cleaning.{dead_outputs}
use Rattle.plan_tools.proofs.cleaning.dead_outputs.Given as goal

-- the paths so far, and those that follow
abbrev pub invariant-loop-number : goal.invariant-loop-number
invariant-loop-number l = l.dead ++ dead_outputs l.graph (drop l.number l.outputs) ≡ dead_outputs l.graph l.outputs
