use Rattle.std.proofs.Common.{◌≡◌, ◌++◌, drop}
use Rattle.std.specs.Prelude.{filter}
use Rattle.plan_tools.specs.Roots.{is_last}
use Rattle.plan_tools.proofs.roots.add_last.Given as goal

-- the roots so far, and those that follow
abbrev pub invariant-loop-output : goal.invariant-loop-output
invariant-loop-output l = l.roots.items ++ filter (is_last l.graph) (drop l.output-index l.outputs) ≡ l.fn.roots.items ++ filter (is_last l.graph) l.outputs
